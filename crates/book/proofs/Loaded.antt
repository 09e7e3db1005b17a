-- Lemmas on loading.
use Rattle.std.proofs.Common.{◌≡◌, ◌≢◌, ℕ, zero, suc, ◌+◌, ◌*◌, ◌/◌, ◌<◌, ◌≤◌, List, ◌++◌, [], ◌∷◌}
use Rattle.std.proofs.Common.{if◌then◌else◌, length, slice_index_or, take, drop, Option, Some, None}
use Rattle.std.proofs.Common.{Result, Ok, Err, is_ok}
use Rattle.std.proofs.Common.{sym, refl, ap, ◌∙◌, inl, inr, add-one, arith}
use Rattle.std.specs.Simd.{first_chunks}
use Rattle.std.proofs.Math.Seq.{take-append_seam}
use Rattle.std.proofs.lemmas.List.{drop-drop}
use Rattle.std.proofs.lemmas.Bool.{cases_lt}
use Rattle.families.specs.Families.{Family}
use Rattle.book.specs.declared.refusals.Refusal.{Refusal}
use Rattle.book.specs.declared.records.Record.{Record}
use Rattle.book.specs.declared.records.Record.TheVariants.{AddProduct, AddTransition}
use Rattle.book.specs.Records.{record_in, record_from}
use Rattle.book.specs.declared.refusals.Refusal.TheVariants.{BadStateCount, ProductsFull, ProductHeld}
use Rattle.book.specs.declared.refusals.Refusal.TheVariants.{OutOfRange, TransitionHeld, TransitionsFull}
use Rattle.book.specs.declared.refusals.Refusal.TheVariants.{NotHeld, BadLength, BadRecord}
use Rattle.book.specs.Answers.{number_of, answer_of}
use Rattle.book.specs.Loads.{next_progress, progress, progress_after, record_result, record_after}
use Rattle.book.specs.LoadLaw.{products_of, transitions_of, family_with, beginning}
use Rattle.book.proofs.LoadLaw.{family_by, same_family}

number_of-not_zero : (r : Refusal) → number_of r ≢ 0
number_of-not_zero BadStateCount e = absurd (cc)
number_of-not_zero ProductsFull e = absurd (cc)
number_of-not_zero ProductHeld e = absurd (cc)
number_of-not_zero OutOfRange e = absurd (cc)
number_of-not_zero TransitionHeld e = absurd (cc)
number_of-not_zero TransitionsFull e = absurd (cc)
number_of-not_zero NotHeld e = absurd (cc)
number_of-not_zero BadLength e = absurd (cc)
number_of-not_zero BadRecord e = absurd (cc)

chunk_at : (bs : List ℕ) (k i : ℕ) (d : List ℕ) → i < k
    → slice_index_or (first_chunks 8 k bs) i d ≡ take 8 (drop (8 * i) bs)
chunk_at bs zero i d h = absurd (omega arith)
chunk_at bs (suc k) zero d h = refl
chunk_at bs (suc k) (suc i) d h =
    chunk_at (drop 8 bs) k i d (omega arith) ∙ ap (take 8) (drop-drop (8 * i) 8 bs)
    ∙ ap (λ n. take 8 (drop n bs)) (omega arith)

-- what stands at a place of the records that were cut
pub record_at : (bs : List ℕ) (rs : List (List ℕ)) (i : ℕ) (d : List ℕ)
    → rs ≡ first_chunks 8 (length bs / 8) bs → i < length bs / 8
    → record_in (slice_index_or rs i d) ≡ record_from bs i
record_at bs rs i d e h =
    ap (λ (l : List (List ℕ)). record_in (slice_index_or l i d)) e
    ∙ ap record_in (chunk_at bs (length bs / 8) i d h)

-- The number of an answer tells whether the call was accepted.
accepted : (x : Result ℕ Refusal) → (answer_of x).0 ≡ 0 → (v : ℕ) × (x ≡ Ok v)
accepted (Ok v) z = (v, refl)
accepted (Err r) z = absurd (number_of-not_zero r z)

refused : (x : Result ℕ Refusal) → (answer_of x).0 ≢ 0 → (r : Refusal) × (x ≡ Err r)
refused (Ok v) z = absurd (z refl)
refused (Err r) z = (r, refl)

-- a refused record changes nothing
record_refused : (f : Family) (e : Option Record) (r : Refusal) → record_result f e ≡ Err r
    → record_after f e ≡ f
record_refused f None r h = refl
record_refused f (Some (AddProduct c)) r h =
    ap (λ (x : Result ℕ Refusal). if is_ok x then record f { products = f.products ++ c ∷ [] } else f) h
record_refused f (Some (AddTransition t)) r h =
    ap (λ (x : Result ℕ Refusal). if is_ok x then record f { transitions = f.transitions ++ t ∷ [] } else f) h

module _ (f : Family) (bs : List ℕ) where
  -- a load that is stopped stays so
  stays : (e : Refusal × ℕ) (i n : ℕ) → i ≤ n → progress_after f bs i ≡ Err e → progress_after f bs n ≡ Err e
  stays e i zero h p = let z : i ≡ 0 = omega arith in ap (progress_after f bs) (sym z) ∙ p
  stays e i (suc n) h p =
      elim (cases_lt i (suc n)) [
        | inl a ↦ ap (next_progress n (record_from bs n)) (stays e i n (omega arith) p)
        | inr b ↦ let z : i ≡ suc n = omega arith in ap (progress_after f bs) (sym z) ∙ p
      ]

  -- What is left of the family with the first n records, once it is cut back to its old lengths.
  pub beginning-family_with : (n p t : ℕ) (g : Family) → g ≡ family_with f bs n → p ≡ length f.products
      → t ≡ length f.transitions → beginning g p t ≡ f
  beginning-family_with n p t g e pl tl =
      ap (λ (h : Family). beginning h p t) e ∙ same_family _ f refl
      (ap (λ k. take k (f.products ++ products_of bs n)) pl ∙ take-append_seam f.products (products_of bs n))
      (ap (λ k. take k (f.transitions ++ transitions_of bs n)) tl
      ∙ take-append_seam f.transitions (transitions_of bs n))

  module _ (m g : Family) (i number : ℕ) (e : Option Record) (before : progress_after f bs i ≡ Ok m)
      (read : e ≡ record_from bs i) (answer : number ≡ (answer_of (record_result m e)).0)
      (after : g ≡ record_after m e) where
    one_more : (y : Result ℕ Refusal) → record_result m e ≡ y
        → progress_after f bs (i + 1) ≡ progress (record_after m e) i y
    one_more y h =
        ap (progress_after f bs) (add-one i) ∙ ap (next_progress i (record_from bs i)) before
        ∙ ap (λ r. next_progress i r (Ok m)) (sym read) ∙ ap (progress (record_after m e) i) h

    -- a record that came in
    pub goes_on : number ≡ 0 → progress_after f bs (i + 1) ≡ Ok g
    goes_on z = let ok = accepted _ (sym answer ∙ z) in one_more (Ok ok.0) ok.1 ∙ ap Ok (sym after)

    -- a record that was refused
    pub stops : number ≢ 0 → i < length bs / 8
        → (r : Refusal) × (progress_after f bs (length bs / 8) ≡ Err (r, i)) × (number ≡ number_of r)
        × (g ≡ family_with f bs i)
    stops z i< =
        let err = refused _ (λ y. z (answer ∙ y)) in (
          err.0,
          stays (err.0, i) (i + 1) (length bs / 8) (omega arith) (one_more (Err err.0) err.1),
          answer ∙ ap (λ x. (answer_of x).0) err.1,
          after ∙ record_refused m e err.0 err.1 ∙ family_by f bs i m before,
        )
