-- How the next token of a text is found.
use Rattle.std.specs.Prelude.{◌≡◌, ℕ, ◌+◌, ◌-◌, ◌<◌, ◌≤◌, Bool, cond, ◌&&◌, List, length, drop, codes, Option, Some, None, ◌==◌, ◌≢◌, nat_lt, slice_index, Ok, Err, Result}
use Rattle.std.specs.Char.{is_ascii_lowercase, is_ascii_uppercase}
use Rattle.std.specs.Str.{bytes_eq}
use Rattle.std.specs.List.{prefix_len, between}
use Rattle.lexer.specs.Tokens.{Sym, Tok, tok, name, variable, sign, in_name, spell, Spaces, Longest, Bad}
use Rattle.lexer.specs.declared.Token.{Token}
use Rattle.lexer.specs.declared.Token.TheVariants as tk
use Rattle.lexer.specs.declared.Found.{Found}
use Rattle.lexer.specs.declared.NoToken.{NoToken}
use Rattle.lexer.specs.declared.Sign.{Sign}
use Rattle.lexer.specs.declared.Sign.TheVariants.{Mu, Nu, True, False, Not, And, Or, Bar, Less, Greater, LeftBracket, RightBracket, Open, Close, Dot}

-- What comes next in a text: a token, its place and where the text goes on; the end; or no token.
pub data Seen : Type 0 where
  found : Sym → ℕ → ℕ → Seen
  end : Seen
  bad : ℕ → Seen

-- What a token is, and where it stands.
abbrev pub sym_of : Token → Sym
sym_of (tk.Name p bs) = name bs.now
sym_of (tk.Variable p v) = variable v
sym_of (tk.Sign p s) = sign s

abbrev pub place_of : Token → ℕ
place_of (tk.Name p bs) = p
place_of (tk.Variable p v) = p
place_of (tk.Sign p s) = p

abbrev pub tok_of : Token → Tok
tok_of t = tok (sym_of t) (place_of t)

abbrev pub seen : Result (Option Found) NoToken → Seen
seen (Ok (Some f)) = found (sym_of f.token) f.start f.end
seen (Ok None) = end
seen (Err e) = bad e.0

-- A token has its place, if two bytes hold that.
abbrev pub Placed : Token → ℕ → Type 0
Placed t p = p < 65536 → place_of t ≡ p

-- A token starts no sooner than asked for, has a byte and ends within the n bytes; a bad place is no sooner
-- either, and that of a byte.
abbrev pub Onward : Result (Option Found) NoToken → ℕ → ℕ → Type 0
Onward (Ok (Some f)) i n = (i ≤ f.start) × (f.start < f.end) × (f.end ≤ n) × Placed f.token f.start
Onward (Ok None) i n = Unit {0}
Onward (Err e) i n = (i ≤ e.0) × (e.0 < n)

abbrev pub space : ℕ → Bool
space b = b == 32

-- The place of the first byte from i on that is no space.
abbrev pub after_spaces : List ℕ → ℕ → ℕ
after_spaces bs i = i + prefix_len space (drop i bs)

-- Where the run of small letters and digits from i on ends.
abbrev pub after_name : List ℕ → ℕ → ℕ
after_name bs i = i + prefix_len in_name (drop i bs)

-- A run of small letters and digits is one of the four words or a name.
abbrev pub word_of : List ℕ → Sym
word_of bs = cond (bytes_eq bs (codes "mu")) (sign Mu) (cond (bytes_eq bs (codes "nu")) (sign Nu) (cond (bytes_eq bs (codes "true")) (sign True) (cond (bytes_eq bs (codes "false")) (sign False) (name bs))))

-- A sign of one byte or of two, or none.
pub data Mark : Type 0 where
  one two : Sign → Mark
  none : Mark

-- The sign that begins with the byte b, where n is the next byte.
abbrev pub mark : ℕ → ℕ → Mark
mark b n =
    cond (b == 38 && n == 38) (two And) (cond (b == 124) (cond (n == 124) (two Or) (one Bar)) (cond (b == 33) (one Not) (cond (b == 60) (one Less) (cond (b == 62) (one Greater) (cond (b == 91) (one LeftBracket) (cond (b == 93) (one RightBracket) (cond (b == 40) (one Open) (cond (b == 41) (one Close) (cond (b == 46) (one Dot) none)))))))))

abbrev pub mark_at : Mark → ℕ → Seen
mark_at (one s) at = found (sign s) at (at + 1)
mark_at (two s) at = found (sign s) at (at + 2)
mark_at none at = bad at

-- The token at a place where a byte stands.
abbrev pub first_at : List ℕ → ℕ → Seen
first_at bs at =
    cond (is_ascii_lowercase (slice_index bs at)) (cond (nat_lt 12 (after_name bs at - at)) (bad at) (found (word_of (between at (after_name bs at) bs)) at (after_name bs at))) (cond (is_ascii_uppercase (slice_index bs at)) (found (variable (slice_index bs at - 65)) at (at + 1)) (mark_at (mark (slice_index bs at) (slice_index bs (at + 1))) at))

-- The token from the place i on, past spaces.
abbrev pub cut_at : List ℕ → ℕ → Seen
cut_at bs i = cond (nat_lt (after_spaces bs i) (length bs)) (first_at bs (after_spaces bs i)) end

-- What is found is the longest token past the spaces; at a bad place no token begins, or a name that is too long.
abbrev pub Lawful : List ℕ → ℕ → Seen → Type 0
Lawful bs i (found s p j) = Spaces bs i p × Longest bs p s × (j ≡ p + length (spell s))
Lawful bs i end = i ≤ length bs → Spaces bs i (length bs)
Lawful bs i (bad p) = Spaces bs i p × (p < length bs) × (slice_index bs p ≢ 32) × Bad bs p
