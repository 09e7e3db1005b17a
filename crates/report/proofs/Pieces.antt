-- Lines that are answered one after another, in whatever pieces they come.
use Rattle.std.proofs.Common.{◌≡◌, ℕ, ◌<◌, ◌≤◌, ◌⊎◌, List, [], ◌∷◌, ◌++◌, length, Option, Some, None}
use Rattle.std.proofs.Common.{Result, Ok, Err, vec_items, sym, refl, ap, ◌∙◌, subst, inl, inr, append_assoc}
use Rattle.std.proofs.Common.{append-nil, arith, length-take}
use Rattle.std.proofs.lemmas.List.{take_all, take-append-le}
use Rattle.std.proofs.lemmas.Bool.{cases_lt}
use Rattle.std.specs.declared.alloc.AllocError.{AllocError}
use Rattle.families.specs.Families.{Family}
use Rattle.report.specs.Events.{Event, bytes_written, OnlyWrites}
use Rattle.report.specs.Sessions.{family_of, actions_of, features_of}
use Rattle.report.specs.Transcripts.{kept, next, Told, Tells, Unbroken, Transcribed, nothing, last_line}
use Rattle.report.specs.Transcripts.{one_line}
use Rattle.report.specs.Conversations.{Answered, begun, answered, ended, Part, nothing_of_it, front_of_it}
use Rattle.report.specs.Conversations.{Caused}
use Rattle.report.specs.Pieces.{Says, Within, Takes, TakesAll, Breaks, BreaksAll, Feeds, ClosesAll, Finishes}
use Rattle.report.specs.declared.session.Session.{Session}
use Rattle.report.specs.declared.transcript.Transcript.{Transcript}
use Rattle.report.specs.declared.serve.Stopped.{Stopped}
use Rattle.report.specs.declared.serve.Stopped.TheVariants.{Input, Output, Memory, Spent}
use Rattle.report.proofs.Events.{written_then, only_then, unwritten_then}
use Rattle.report.proofs.Kept.{none_kept}

pub ended_then : (xs ys : List (List ℕ)) → ended (xs ++ ys) ≡ ended xs ++ ended ys
ended_then [] ys = refl
ended_then (x ∷ xs) ys = ap (λ l. x ++ (10 ∷ l)) (ended_then xs ys)
    ∙ sym (append_assoc x (10 ∷ ended xs) (ended ys))

module _ (F : Family) (A O : List ℕ) where
  -- What follows goes on from the line that has begun.
  pub answered_then : (n m k : ℕ) (seen text left bytes : List ℕ) (lines more : List (List ℕ))
      → Answered F A O n seen lines m text
      → Answered F A O m (text ++ bytes) more k left → Answered F A O n (seen ++ bytes) (lines ++ more) k left
  answered_then n m k seen text left bytes lines more (begun u) b = b
  answered_then n m k seen text left bytes lines more
      (answered {text = line} {bytes = first} {rest = rest} {more = others} u l a) b =
      subst (λ (s : List ℕ). Answered F A O n s (first ∷ (others ++ more)) k left)
      (sym (append_assoc line (10 ∷ rest) bytes))
      (answered u l (answered_then (next n) m k rest text left bytes others more a b))

  -- At the end of the input what is written for the line that has begun is the rest.
  pub closes : (n m : ℕ) (seen text : List ℕ) (lines more : List (List ℕ))
      → Answered F A O n seen lines m text → Transcribed F A O m text more
      → Transcribed F A O n seen (lines ++ more)
  closes n m seen text lines more (begun u) t = t
  closes n m seen text lines more (answered {rest = rest} {more = others} u l a) t =
      one_line u l (closes (next n) m rest text others more a t)

-- What is kept of a line grows with the line.
pub kept_push : (text : List ℕ) (b : ℕ) → kept (kept text ++ b ∷ []) ≡ kept (text ++ b ∷ [])
kept_push text b = go (cases_lt (length text) 1025)
  where
    go : (length text < 1025) ⊎ (1025 ≤ length text) → kept (kept text ++ b ∷ []) ≡ kept (text ++ b ∷ [])
    go (inl short) = ap (λ t. kept (t ++ b ∷ [])) (take_all 1025 text (omega arith))
    go (inr long) = sym (none_kept (kept text) b (omega (arith, length-take 1025 text)))
        ∙ sym (take-append-le 1025 text (b ∷ []) long)

pub unbroken_push : (text : List ℕ) (b : ℕ) → (b ≡ 10 → ⊥) → Unbroken text → Unbroken (text ++ b ∷ [])
unbroken_push [] b h u = (h, tt)
unbroken_push (x ∷ xs) b h u = (u.0, unbroken_push xs b h u.1)

-- Nothing is kept only of the empty line.
pub none_seen : (text : List ℕ) → kept text ≡ [] → text ≡ []
none_seen [] e = refl
none_seen (x ∷ xs) e = absurd (omega (arith, ap length e, length-take 1025 (x ∷ xs)))

-- No line ends in no byte.
begins : (t : Transcript) (text : List ℕ) → Unbroken text
    → Answered (family_of t.session) (actions_of t.session) (features_of t.session) t.number
    (text ++ []) [] t.number text
begins t text u =
    subst (λ (s : List ℕ). Answered (family_of t.session) (actions_of t.session)
    (features_of t.session) t.number s [] t.number text) (sym (append-nil text)) (begun u)

takes_none : (t : Transcript) → TakesAll t t [] []
takes_none t text w = record {
  left = text;
  lines = [];
  within = w;
  answers = begins t text w.unbroken;
  wrote = refl;
}

-- A byte within a line.
unfoldable pub takes_byte : (t u : Transcript) (b : ℕ) → (b ≡ 10 → ⊥) → vec_items u.line ≡ kept
    (vec_items t.line ++ b ∷ []) → u.number ≡ t.number → TakesAll t u (b ∷ []) []
takes_byte t u b h grown same text w =
    let longer : List ℕ = text ++ b ∷ [] in
    let whole : Unbroken longer = unbroken_push text b h w.unbroken in
    record {
      left = longer;
      lines = [];
      within = record {
        keeps = grown ∙ ap (λ s. kept (s ++ b ∷ [])) w.keeps
            ∙ kept_push text b;
        unbroken = whole;
      };
      answers = subst (λ (n : ℕ). Answered (family_of t.session) (actions_of t.session)
          (features_of t.session) t.number longer [] n longer) (sym same) (begun whole);
      wrote = refl;
    }

-- The end of a line.
unfoldable pub takes_line : (t u : Transcript) (bytes written : List ℕ) → vec_items u.line ≡ []
    → u.number ≡ next t.number → Tells t.session t.number (vec_items t.line) bytes → written ≡ bytes ++ 10 ∷ []
    → TakesAll t u (10 ∷ []) written
takes_line t u bytes written none step tells wrote text w = record {
  left = [];
  lines = bytes ∷ [];
  within = record { keeps = none; unbroken = tt };
  answers = subst (λ (n : ℕ). Answered (family_of t.session) (actions_of t.session)
      (features_of t.session) t.number (text ++ 10 ∷ []) (bytes ∷ []) n []) (sym step)
      (answered w.unbroken (tells text w.keeps) (begun tt));
  wrote = wrote;
}

-- Bytes, and then others.
takes_then : (t u v : Transcript) (xs ys before after : List ℕ) → u.session ≡ t.session
    → TakesAll t u xs before → TakesAll u v ys after
    → TakesAll t v (xs ++ ys) (before ++ after)
takes_then t u v xs ys before after e first second text w =
    let F = family_of t.session in
    let A = actions_of t.session in
    let O = features_of t.session in
    let p : Takes t.session t u text xs before = first text w in
    let q : Takes t.session u v p.left ys after = subst (λ (s : Session). Takes s u v p.left ys after) e
    (second p.left p.within) in
    record {
      left = q.left;
      lines = p.lines ++ q.lines;
      within = q.within;
      answers = subst (λ (s : List ℕ). Answered F A O t.number s (p.lines ++ q.lines) v.number q.left)
          (append_assoc text xs ys)
          (answered_then F A O t.number u.number v.number
          (text ++ xs) p.left q.left ys p.lines q.lines p.answers q.answers);
      wrote = ap (λ l. l ++ after) p.wrote ∙ ap (λ l. ended p.lines ++ l) q.wrote
          ∙ sym (ended_then p.lines q.lines);
    }

-- The end of the input.
unfoldable pub closes_none : (t : Transcript) → vec_items t.line ≡ [] → ClosesAll t []
closes_none t none text w = record {
  lines = [];
  transcript = subst (λ (s : List ℕ). Transcribed (family_of t.session) (actions_of t.session)
      (features_of t.session) t.number s []) (sym (none_seen text (sym w.keeps ∙ none))) nothing;
  wrote = refl;
}

unfoldable pub closes_line : (t : Transcript) (bytes written : List ℕ) → (vec_items t.line ≡ [] → ⊥)
    → Tells t.session t.number (vec_items t.line) bytes
    → written ≡ bytes ++ 10 ∷ [] → ClosesAll t written
closes_line t bytes written some tells wrote text w = record {
  lines = bytes ∷ [];
  transcript = last_line w.unbroken (λ e. some (w.keeps ∙ ap kept e)) (tells text w.keeps);
  wrote = wrote;
}

-- Stopped after some bytes of what follows.
breaks_then : (t u : Transcript) (xs ys before after : List ℕ) (why : Stopped) → u.session ≡ t.session
    → TakesAll t u xs before → BreaksAll u ys why after
    → BreaksAll t (xs ++ ys) why (before ++ after)
breaks_then t u xs ys before after why e first second text w =
    let F = family_of t.session in
    let A = actions_of t.session in
    let O = features_of t.session in
    let p : Takes t.session t u text xs before = first text w in
    let q : Breaks t.session u p.left ys why after = subst
    (λ (s : Session). Breaks s u p.left ys why after) e (second p.left p.within) in
    record {
      done = xs ++ q.done;
      rest = q.rest;
      number = q.number;
      left = q.left;
      lines = p.lines ++ q.lines;
      part = q.part;
      split = ap (λ l. xs ++ l) q.split ∙ sym (append_assoc xs q.done q.rest);
      answers = subst (λ (s : List ℕ). Answered F A O t.number s (p.lines ++ q.lines) q.number q.left)
          (append_assoc text xs q.done)
          (answered_then F A O t.number u.number q.number
          (text ++ xs) p.left q.left q.done p.lines q.lines p.answers q.answers);
      begins = q.begins;
      wrote = ap (λ l. l ++ after) p.wrote ∙ ap (λ l. ended p.lines ++ l) q.wrote
          ∙ sym (append_assoc (ended p.lines) (ended q.lines) q.part)
          ∙ ap (λ l. l ++ q.part) (sym (ended_then p.lines q.lines));
    }

-- The bytes after that count as not taken.
breaks_more : (t : Transcript) (xs ys written : List ℕ) (why : Stopped) → BreaksAll t xs why written
    → BreaksAll t (xs ++ ys) why written
breaks_more t xs ys written why h text w =
    let p : Breaks t.session t text xs why written = h text w in
    record {
      done = p.done;
      rest = p.rest ++ ys;
      number = p.number;
      left = p.left;
      lines = p.lines;
      part = p.part;
      split = ap (λ l. l ++ ys) p.split ∙ append_assoc p.done p.rest ys;
      answers = p.answers;
      begins = p.begins;
      wrote = p.wrote;
    }

-- At the end of the line that has begun.
breaks_here : (t : Transcript) (bytes part : List ℕ) (why : Stopped)
    → ((text : List ℕ) → Within t text → Part t.session t.number text why part) → BreaksAll t bytes why part
breaks_here t bytes part why h text w = record {
  done = [];
  rest = bytes;
  number = t.number;
  left = text;
  lines = [];
  part = part;
  split = refl;
  answers = begins t text w.unbroken;
  begins = h text w;
  wrote = refl;
}

-- Feeding a transcript: no bytes, a byte within a line, the end of a line, bytes and then others, and where
-- it stops.
pub feeds_none : {T : Type 0} (t : Transcript) (x : T) → Feeds t t [] (Ok x) []
feeds_none t x = (tt, takes_none t)

pub feeds_byte : {T : Type 0} (t u : Transcript) (b : ℕ) (x : T) → (b ≡ 10 → ⊥)
    → vec_items u.line ≡ kept (vec_items t.line ++ b ∷ []) → u.number ≡ t.number
    → Feeds t u (b ∷ []) (Ok x) []
feeds_byte t u b x h grown same = (tt, takes_byte t u b h grown same)

module _ (T : Type 0) (t : Transcript) (answer : List ℕ)
    (tells : Tells t.session t.number (vec_items t.line) answer) where
  -- A line that was told but not written whole.
  stopped_within : (bytes : List ℕ) (why : Stopped) (es : List Event) → Says {T = T} answer (Err why) es
      → OnlyWrites es × BreaksAll t bytes why (bytes_written es) × Caused why es
  stopped_within bytes (Input e) es says = absurd says
  stopped_within bytes (Output e) es (only, (rest, split), last) = (
    only,
    breaks_here t bytes (bytes_written es) (Output e)
        (λ text w. front_of_it answer rest (tells text w.keeps) split),
    last,
  )
  stopped_within bytes (Memory e) es says =
      subst (λ (fs : List Event). OnlyWrites fs × BreaksAll t bytes (Memory e) (bytes_written fs)
      × Caused (Memory e) fs) (sym says)
      (tt, breaks_here t bytes [] (Memory e) (λ text w. nothing_of_it), tt)
  stopped_within bytes Spent es says = absurd says

  pub feeds_line : (u : Transcript) → vec_items u.line ≡ [] → u.number ≡ next t.number
      → (r : Result T Stopped) (es : List Event) → Says answer r es
      → Feeds t u (10 ∷ []) r es
  feeds_line u none step (Ok x) es (only, wrote) =
      (only, takes_line t u answer (bytes_written es) none step tells wrote)
  feeds_line u none step (Err why) es says = stopped_within (10 ∷ []) why es says

  pub finishes_line : (vec_items t.line ≡ [] → ⊥) → (r : Result T Stopped) (es : List Event)
      → Says answer r es → Finishes t r es
  finishes_line some (Ok x) es (only, wrote) =
      (only, closes_line t answer (bytes_written es) some tells wrote)
  finishes_line some (Err why) es says = stopped_within [] why es says

pub finishes_none : {T : Type 0} (t : Transcript) (x : T) → vec_items t.line ≡ [] → Finishes t (Ok x) []
finishes_none t x none = (tt, closes_none t none)

-- Without memory for an answer nothing is written.
pub without_memory : (t : Transcript) (bytes : List ℕ) (e : AllocError) → OnlyWrites []
    × BreaksAll t bytes (Memory e) [] × Caused (Memory e) []
without_memory t bytes e = (tt, breaks_here t bytes [] (Memory e) (λ text w. nothing_of_it), tt)

pub caused_then : (why : Stopped) (es fs : List Event) → Caused why fs → Caused why (es ++ fs)
caused_then (Input e) es fs c = absurd c
caused_then (Output e) es fs c = unwritten_then e es fs c
caused_then (Memory e) es fs c = tt
caused_then Spent es fs c = absurd c

module _ {T : Type 0} (t u v : Transcript) (xs ys : List ℕ) (same : u.session ≡ t.session) where
  pub feeds_then : {S : Type 0} (x : S) (r : Result T Stopped) (es fs : List Event) → Feeds t u xs (Ok x) es
      → Feeds u v ys r fs → Feeds t v (xs ++ ys) r (es ++ fs)
  feeds_then x (Ok y) es fs (only, takes) (after, more) = (
    only_then es fs only after,
    subst (TakesAll t v (xs ++ ys)) (sym (written_then es fs))
        (takes_then t u v xs ys (bytes_written es) (bytes_written fs) same takes more),
  )
  feeds_then x (Err why) es fs (only, takes) (after, more, last) = (
    only_then es fs only after,
    subst (BreaksAll t (xs ++ ys) why) (sym (written_then es fs))
        (breaks_then t u xs ys (bytes_written es) (bytes_written fs) why same takes more),
    caused_then why es fs last,
  )

-- Bytes after those within which it stopped.
pub feeds_more : (T : Type 0) (t u v : Transcript) (xs ys : List ℕ) (why : Stopped) (es : List Event)
    → Feeds {T = T} t u xs (Err why) es → Feeds {T = T} t v (xs ++ ys) (Err why) es
feeds_more T t u v xs ys why es (only, stops, last) =
    (only, breaks_more t xs ys (bytes_written es) why stops, last)

pub empty_or : (xs : List ℕ) → (xs ≡ []) ⊎ (xs ≡ [] → ⊥)
empty_or [] = inl refl
empty_or (x ∷ xs) = inr (λ e. omega (arith, ap length e))

pub told : {X : Type 0} (P : X → Type 0) (o : Option X) (x : X) → o ≡ Some x → Told o P → P x
told P o x e h = subst (λ p. Told p P) e h

pub untold : {X : Type 0} (P : X → Type 0) (o : Option X) → o ≡ None → Told o P → ⊥
untold P o e h = subst (λ p. Told p P) e h
