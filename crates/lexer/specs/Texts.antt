-- The tokens of a text: the longest token counts, and spaces between tokens are skipped.
use Rattle.std.specs.Prelude.{ℕ, ◌+◌, ◌<◌, List, [], ◌∷◌, length, map, ◌≢◌, slice_index}
use Rattle.lexer.specs.Tokens.{Sym, Tok, tok, spell, Longest, Bad, Spaces}
use Rattle.lexer.specs.Cuts.{tok_of}
use Rattle.lexer.specs.declared.Token.{Token}

-- The tokens from a place on to the text's end, each with its place.
pub data TokensOf (bs : List ℕ) : ℕ → List Tok → Type 0 where
  no_more : (i : ℕ) → Spaces bs i (length bs) → TokensOf bs i []
  one_more : (i : ℕ) (s : Sym) (p : ℕ) {ts : List Tok} → Spaces bs i p → Longest bs p s → TokensOf bs
      (p + length (spell s)) ts → TokensOf bs i (tok s p ∷ ts)

-- The first place from i on where a byte stands with which no token begins, or a name above 12 bytes does.
pub data NoTokenAt (bs : List ℕ) : ℕ → ℕ → Type 0 where
  here : (i p : ℕ) → Spaces bs i p → p < length bs → (slice_index bs p ≢ 32) → Bad bs p → NoTokenAt bs i p
  later : (i : ℕ) (s : Sym) (p q : ℕ) → Spaces bs i p → Longest bs p s → NoTokenAt bs (p + length (spell s))
      q → NoTokenAt bs i q

-- The tokens of a table.
abbrev pub toks : List Token → List Tok
toks ts = map tok_of ts
