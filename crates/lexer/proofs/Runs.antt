-- What a byte read says of its place.
use Rattle.std.proofs.Common.{ℕ, ◌<◌, List, length, get_or, ⊎_elim, arith}
use Rattle.std.proofs.lemmas.List.{get_or_past}
use Rattle.std.proofs.lemmas.Bool.{cases_lt}

pub inside : (bs : List ℕ) (i : ℕ) → 0 < get_or bs i 0 → i < length bs
inside bs i h = ⊎_elim (λ lt. lt) (λ ge. absurd (omega (arith, get_or_past bs i 0 ge))) (cases_lt i (length bs))
