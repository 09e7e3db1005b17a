-- Events one after another.
use Rattle.std.proofs.Common.{◌≡◌, ℕ, ◌-◌, List, [], ◌∷◌, ◌++◌, length, take, drop, Option, Some, None}
use Rattle.std.proofs.Common.{Result, Ok, Err, IsErrAnd, sym, refl, ap, ◌∙◌, subst, append_assoc}
use Rattle.std.proofs.Common.{append-nil, take-append-drop}
use Rattle.std.proofs.lemmas.List.{take_rest}
use Rattle.std.proofs.lemmas.Result.{err_from_is_err_and}
use Rattle.std.proofs.KnownBytes.{Consumes-nil, Consumes-trans, Appends-nil, Appends-trans}
use Rattle.std.specs.Io.KnownBytes.{Appends, Consumes, IsAtEnd}
use Rattle.std.specs.IoError.{error_kind}
use Rattle.std_io.specs.declared.io.error.Error.{Error}
use Rattle.std_io.specs.declared.io.kind.ErrorKind.TheVariants.{WriteZero}
use Rattle.report.specs.Events.{Event, read, read_failed, wrote, write_failed, given, taken, bytes_read}
use Rattle.report.specs.Events.{bytes_written, OnlyWrites, Known, Happen, Passes, Through, ReadsAll}
use Rattle.report.specs.Events.{Unwritten, failed, took_nothing, later, Puts}

pub read_then : (xs ys : List Event) → bytes_read (xs ++ ys) ≡ bytes_read xs ++ bytes_read ys
read_then [] ys = refl
read_then (x ∷ xs) ys = ap (λ l. given x ++ l) (read_then xs ys)
    ∙ sym (append_assoc (given x) (bytes_read xs) (bytes_read ys))

pub written_then : (xs ys : List Event) → bytes_written (xs ++ ys) ≡ bytes_written xs ++ bytes_written ys
written_then [] ys = refl
written_then (x ∷ xs) ys = ap (λ l. taken x ++ l) (written_then xs ys)
    ∙ sym (append_assoc (taken x) (bytes_written xs) (bytes_written ys))

pub only_then : (xs ys : List Event) → OnlyWrites xs → OnlyWrites ys → OnlyWrites (xs ++ ys)
only_then [] ys p q = q
only_then (x ∷ xs) ys p q = (p.0, only_then xs ys p.1 q)

-- Writes read nothing.
pub none_read : (es : List Event) → OnlyWrites es → bytes_read es ≡ []
none_read [] w = refl
none_read (read bytes ∷ es) w = absurd w.0
none_read (read_failed e ∷ es) w = absurd w.0
none_read (wrote bytes ∷ es) w = none_read es w.1
none_read (write_failed e ∷ es) w = none_read es w.1

-- An event that writes nothing.
pub written_same : (es : List Event) (e : Event) → taken e ≡ []
    → bytes_written (es ++ e ∷ []) ≡ bytes_written es
written_same es e none =
    written_then es (e ∷ []) ∙ ap (λ l. bytes_written es ++ l) (append-nil (taken e) ∙ none)
    ∙ append-nil (bytes_written es)

happen_none : (a : Option (List Event)) → Happen a a []
happen_none None = tt
happen_none (Some x) = sym (append-nil x)

happen_then : (a b c : Option (List Event)) (xs ys : List Event) → Happen a b xs → Happen b c ys
    → Happen a c (xs ++ ys)
happen_then None None None xs ys p q = tt
happen_then None None (Some z) xs ys p q = absurd q
happen_then None (Some y) c xs ys p q = absurd p
happen_then (Some x) None None xs ys p q = tt
happen_then (Some x) None (Some z) xs ys p q = absurd q
happen_then (Some x) (Some y) None xs ys p q = tt
happen_then (Some x) (Some y) (Some z) xs ys p q = q ∙ ap (λ l. l ++ ys) p ∙ append_assoc x xs ys

pub passes_none : (k : Known) → Passes k k []
passes_none k = record {
  read = Consumes-nil k.unread;
  written = Appends-nil k.written;
  happened = happen_none k.events;
}

pub passes_then : (a b c : Known) (xs ys : List Event) → Passes a b xs → Passes b c ys → Passes a c (xs ++ ys)
passes_then a b c xs ys p q = record {
  read = subst (Consumes a.unread c.unread) (sym (read_then xs ys))
      (Consumes-trans a.unread b.unread c.unread (bytes_read xs) (bytes_read ys) p.read q.read);
  written = subst (Appends a.written c.written) (sym (written_then xs ys))
      (Appends-trans a.written b.written c.written (bytes_written xs) (bytes_written ys) p.written q.written);
  happened = happen_then a.events b.events c.events xs ys p.happened q.happened;
}

-- No event, some and then others, and a weaker statement.
pub through_none : (k : Known) {P : List Event → Type 0} → P [] → Through k k P
through_none k p = ([], passes_none k, p)

pub through_then : (a b c : Known) {P Q R : List Event → Type 0}
    → ((es fs : List Event) → P es → Q fs → R (es ++ fs))
    → Through a b P → Through b c Q → Through a c R
through_then a b c f (es, p, x) (fs, q, y) = (es ++ fs, passes_then a b c es fs p q, f es fs x y)

pub through_weaker : (a b : Known) {P Q : List Event → Type 0} → ((es : List Event) → P es → Q es)
    → Through a b P → Through a b Q
through_weaker a b f (es, p, x) = (es, p, f es x)

-- Where `?` hands on an error, what holds of that error holds of the result.
pub residual : {T E : Type 0} (r : Result T E) (e : E) (P : Result T E → Type 0) → IsErrAnd r (λ x. x ≡ e)
    → P (Err e) → P r
residual r e P h p =
    let q = err_from_is_err_and r h in
    subst P (sym (q.1 ∙ ap Err q.2)) p

-- What was read up to the end is all that there was.
pub reads_all : (a b : Option (List ℕ)) (es : List Event) → Consumes a b (bytes_read es) → IsAtEnd b
    → ReadsAll a es
reads_all None b es gone end = tt
reads_all (Some x) None es gone end = absurd gone
reads_all (Some x) (Some y) es gone end = sym (gone ∙ ap (λ l. bytes_read es ++ l) end
    ∙ append-nil (bytes_read es))

pub unwritten_then : (e : Error) (xs ys : List Event) → Unwritten e ys → Unwritten e (xs ++ ys)
unwritten_then e [] ys u = u
unwritten_then e (x ∷ xs) ys u = later x (unwritten_then e xs ys u)

-- So much of some bytes was written, and the rest is still to be.
abbrev pub PutSoFar : List ℕ → List ℕ → List Event → Type 0
PutSoFar whole rest es = OnlyWrites es × (whole ≡ bytes_written es ++ rest)

module _ (a b c : Known) (whole rest : List ℕ) where
  pub put_more : (n : ℕ) → Through a b (PutSoFar whole rest) → Passes b c (wrote (take n rest) ∷ [])
      → Through a c (PutSoFar whole (take (length rest - n) (drop n rest)))
  put_more n (es, p, (only, split)) q =
      let piece : List Event = wrote (take n rest) ∷ [] in
      let after : List ℕ = take (length rest - n) (drop n rest) in
      let halves : rest ≡ take n rest ++ after = sym (take-append-drop n rest)
      ∙ ap (λ l. take n rest ++ l) (sym (take_rest rest n)) in
      let put : bytes_written es ++ take n rest ≡ bytes_written (es ++ piece) =
      ap (λ l. bytes_written es ++ l) (sym (append-nil (take n rest))) ∙ sym (written_then es piece) in (
        es ++ piece,
        passes_then a b c es piece p q,
        (
          only_then es piece only (tt, tt),
          split ∙ ap (λ l. bytes_written es ++ l) halves
              ∙ sym (append_assoc (bytes_written es) (take n rest) after) ∙ ap (λ l. l ++ after) put,
        ),
      )

  -- A write that put nothing leaves the rest as it was.
  still_so_far : (es : List Event) (e : Event) → taken e ≡ [] → OnlyWrites (e ∷ []) → PutSoFar whole rest es
      → PutSoFar whole rest (es ++ e ∷ [])
  still_so_far es e none write (only, split) = (
    only_then es (e ∷ []) only write,
    split ∙ ap (λ l. l ++ rest) (sym (written_same es e none)),
  )

  -- One that failed, and after which others come.
  pub put_again : (e : Error) → Through a b (PutSoFar whole rest) → Passes b c (write_failed e ∷ [])
      → Through a c (PutSoFar whole rest)
  put_again e (es, p, so_far) q = (
    es ++ write_failed e ∷ [],
    passes_then a b c es (write_failed e ∷ []) p q,
    still_so_far es (write_failed e) refl (tt, tt) so_far,
  )

  -- One that is the last.
  put_last : (T : Type 0) (e : Error) (last : Event) → taken last ≡ [] → OnlyWrites (last ∷ [])
      → Unwritten e (last ∷ [])
      → Through a b (PutSoFar whole rest) → Passes b c (last ∷ []) → Through a c (Puts {T = T} whole (Err e))
  put_last T e last none write why (es, p, so_far) q =
      let (only, split) = still_so_far es last none write so_far in (
        es ++ last ∷ [],
        passes_then a b c es (last ∷ []) p q,
        (only, (rest, split), unwritten_then e es (last ∷ []) why),
      )

  pub put_failed : (T : Type 0) (e : Error) → Through a b (PutSoFar whole rest)
      → Passes b c (write_failed e ∷ []) → Through a c (Puts {T = T} whole (Err e))
  put_failed T e = put_last T e (write_failed e) refl (tt, tt) failed

  pub put_stuck : (T : Type 0) (e : Error) → error_kind e ≡ WriteZero → Through a b (PutSoFar whole rest)
      → Passes b c (wrote [] ∷ [])
      → Through a c (Puts {T = T} whole (Err e))
  put_stuck T e kind = put_last T e (wrote []) refl (tt, tt) (took_nothing kind)

pub put_whole : {T : Type 0} (a b : Known) (whole : List ℕ) (x : T) → Through a b (PutSoFar whole [])
    → Through a b (Puts whole (Ok x))
put_whole a b whole x = through_weaker a b (λ es p. (p.0, sym (append-nil (bytes_written es)) ∙ sym p.1))
