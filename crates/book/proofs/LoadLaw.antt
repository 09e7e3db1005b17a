-- Why going through the records one by one does what the law of loading says.
use Rattle.std.proofs.Common.{◌≡◌, ℕ, zero, suc, ◌/◌, ◌%◌, ◌<◌, ◌≤◌, Bool, true, false, ◌==◌, ◌⊎◌}
use Rattle.std.proofs.Common.{if◌then◌else◌, List, [], ◌∷◌, ◌++◌, length, Option, Some, None}
use Rattle.std.proofs.Common.{Result, Ok, Err, is_ok, IsOk}
use Rattle.std.proofs.Common.{sym, refl, ap, ◌∙◌, subst, inl, inr, append_assoc, append-nil, arith}
use Rattle.std.specs.Result.{result_unwrap_or}
use Rattle.std.proofs.lemmas.Bool.{cases_lt}
use Rattle.std.proofs.lemmas.Bool.Decides.{nat_tests}
use Rattle.families.specs.Families.{Family}
use Rattle.book.specs.declared.refusals.Refusal.{Refusal}
use Rattle.book.specs.declared.records.Record.{Record}
use Rattle.book.specs.declared.records.Record.TheVariants.{AddProduct, AddTransition}
use Rattle.book.specs.Records.{record_from}
use Rattle.book.specs.Loads.{record_result, record_after, next_progress, progress, progress_after}
use Rattle.book.specs.Loads.{has_bad_length, progress_answer, load_answer, load_after}
use Rattle.book.specs.LoadLaw.{product_of, transition_of, products_of, transitions_of, family_with}
use Rattle.book.specs.LoadLaw.{Acceptable, Loaded, ill_sized, first_bad, all_good}

pub same_family : (l m : Family) → l.states ≡ m.states → l.products ≡ m.products
    → l.transitions ≡ m.transitions → l ≡ m
same_family l m p q r =
    ap (λ s. record { states = s; products = l.products; transitions = l.transitions }) p
    ∙ ap (λ c. record { states = m.states; products = c; transitions = l.transitions }) q
    ∙ ap (λ t. record { states = m.states; products = m.products; transitions = t }) r

-- A record that is accepted goes to the end of its list.
brings : (g : Family) (e : Option Record) (v : ℕ) → record_result g e ≡ Ok v
    → record_after g e
    ≡ record g { products = g.products ++ product_of e; transitions = g.transitions ++ transition_of e }
brings g None v h = absurd (cc)
brings g (Some (AddProduct c)) v h =
    ap (λ (x : Result ℕ Refusal). if is_ok x then record g { products = g.products ++ c ∷ [] } else g) h
    ∙ same_family _ _ refl refl (sym (append-nil g.transitions))
brings g (Some (AddTransition t)) v h =
    ap (λ (x : Result ℕ Refusal). if is_ok x then record g { transitions = g.transitions ++ t ∷ [] } else g) h
    ∙ same_family _ _ refl (sym (append-nil g.products)) refl

module _ (f : Family) (bs : List ℕ) where
  family_more : (n v : ℕ) → record_result (family_with f bs n) (record_from bs n) ≡ Ok v
      → record_after (family_with f bs n) (record_from bs n) ≡ family_with f bs (suc n)
  family_more n v h = brings (family_with f bs n) (record_from bs n) v h ∙ same_family _ _ refl
      (append_assoc f.products (products_of bs n) (product_of (record_from bs n)))
      (append_assoc f.transitions (transitions_of bs n) (transition_of (record_from bs n)))

  acceptable_more : (n v : ℕ) → Acceptable f bs n
      → record_result (family_with f bs n) (record_from bs n) ≡ Ok v → Acceptable f bs (suc n)
  acceptable_more n v a h i i< =
      elim (cases_lt i n) [
        | inl l ↦ a i l
        | inr l ↦
            let e : n ≡ i = omega arith in
            subst (λ j. IsOk (record_result (family_with f bs j) (record_from bs j))) e
            (ap (λ (x : Result ℕ Refusal). is_ok x) h)
      ]

  abbrev Told : ℕ → Result Family (Refusal × ℕ) → Type 0
  Told n (Ok g) = (g ≡ family_with f bs n) × Acceptable f bs n
  Told n (Err e) =
      (e.1 < n) × Acceptable f bs e.1 × (record_result (family_with f bs e.1) (record_from bs e.1) ≡ Err e.0)

  told_next : (n : ℕ) (p : Result Family (Refusal × ℕ)) → Told n p
      → Told (suc n) (next_progress n (record_from bs n) p)
  told_next n (Err e) t = (omega arith, t.1, t.2)
  told_next n (Ok g) t =
      go (record_result g (record_from bs n)) (ap (λ h. record_result h (record_from bs n)) (sym t.0))
    where
      go : (x : Result ℕ Refusal) → record_result (family_with f bs n) (record_from bs n) ≡ x
          → Told (suc n) (progress (record_after g (record_from bs n)) n x)
      go (Ok v) q =
          (ap (λ h. record_after h (record_from bs n)) t.0 ∙ family_more n v q, acceptable_more n v t.1 q)
      go (Err r) q = (omega arith, t.1, q)

  all_told : (n : ℕ) → Told n (progress_after f bs n)
  all_told zero = (
    same_family _ _ refl (sym (append-nil f.products)) (sym (append-nil f.transitions)),
    λ i i<. absurd (omega arith),
  )
  all_told (suc n) = told_next n (progress_after f bs n) (all_told n)

  -- What the records before leave.
  pub family_by : (n : ℕ) (g : Family) → progress_after f bs n ≡ Ok g → g ≡ family_with f bs n
  family_by n g e = (subst (Told n) e (all_told n)).0

  fits : has_bad_length bs ≡ false → (length bs % 8 ≡ 0) × (length bs ≤ 3648)
  fits q = (grind (arith, nat_tests), grind (arith, nat_tests))

  fails : has_bad_length bs ≡ true → (¬ (length bs % 8 ≡ 0)) ⊎ (3648 < length bs)
  fails q = go (length bs % 8 == 0) refl
    where
      go : (b : Bool) → (length bs % 8 == 0) ≡ b → (¬ (length bs % 8 ≡ 0)) ⊎ (3648 < length bs)
      go true e = inr (grind (arith, nat_tests))
      go false e = inl (λ z. (let y : ⊥ = grind (arith, nat_tests) in y))

  -- How far all the records come, and what a load answers and leaves, told by whether the length is bad.
  abbrev all : Result Family (Refusal × ℕ)
  all = progress_after f bs (length bs / 8)

  abbrev answer_if : Bool → ℕ × ℕ
  answer_if b = if b then (8, 0) else progress_answer (length bs / 8) all

  abbrev family_if : Bool → Family
  family_if b = if b then f else result_unwrap_or all f

  pub load_law : Loaded f bs (load_answer f bs).0 (load_answer f bs).1 (load_after f bs)
  load_law = go (has_bad_length bs) refl
    where
      ended : (p : Result Family (Refusal × ℕ)) → length bs % 8 ≡ 0 → length bs ≤ 3648
          → Told (length bs / 8) p → (let a : ℕ × ℕ = progress_answer (length bs / 8) p in
          Loaded f bs a.0 a.1 (result_unwrap_or p f))
      ended (Ok g) m l t = subst (λ h. Loaded f bs 0 (length bs / 8) h) (sym t.0) (all_good m l t.1)
      ended (Err e) m l t = first_bad e.0 e.1 m l t.0 t.1 t.2

      go : (b : Bool) → has_bad_length bs ≡ b
          → Loaded f bs (answer_if b).0 (answer_if b).1 (family_if b)
      go true q = ill_sized (fails q)
      go false q = ended all (fits q).0 (fits q).1 (all_told (length bs / 8))

  -- What a load answers and leaves, and that this is lawful.
  abbrev Loads : ℕ × ℕ → Family → Type 0
  Loads r g = (r ≡ load_answer f bs) × (g ≡ load_after f bs) × Loaded f bs r.0 r.1 g

  lawful_load : (r : ℕ × ℕ) (g : Family) → r ≡ load_answer f bs → g ≡ load_after f bs → Loads r g
  lawful_load r g p q = (
    p,
    q,
    subst (λ h. Loaded f bs r.0 r.1 h) (sym q)
        (subst (λ (a : ℕ × ℕ). Loaded f bs a.0 a.1 (load_after f bs)) (sym p) load_law),
  )

  pub ill_sized_load : (k : ℕ) → has_bad_length bs ≡ true → k ≡ 8 → Loads (k, 0) f
  ill_sized_load k z e =
      lawful_load (k, 0) f (ap (λ n. (n, 0)) e ∙ sym (ap answer_if z)) (sym (ap family_if z))

  pub ended_load : (p : Result Family (Refusal × ℕ)) (r : ℕ × ℕ) (g : Family) → has_bad_length bs ≡ false
      → all ≡ p → r ≡ progress_answer (length bs / 8) p → g ≡ result_unwrap_or p f → Loads r g
  ended_load p r g z e a b =
      lawful_load r g
      (a ∙ sym (ap answer_if z ∙ ap (progress_answer (length bs / 8)) e))
      (b ∙ sym (ap family_if z ∙ ap (λ q. result_unwrap_or q f) e))
