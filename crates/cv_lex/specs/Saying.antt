-- What the bytes between the quotes of a text say, form by form.
use Rattle.std.specs.Prelude.{◌≡◌, ℕ, ◌+◌, ◌-◌, ◌*◌, ◌==◌, true, false, Some, List, [], ◌∷◌, ◌++◌, encode_utf8}
use Rattle.cv_lex.specs.Characters.{backslash, letter_u}
use Rattle.cv_lex.specs.Texts.{hex4, is_high, is_low, short_escape}

-- the character of a first and a second half of a pair of surrogates
abbrev pub character_of : ℕ → ℕ → ℕ
character_of high low = 0x10000 + (high - 0xD800) * 0x400 + (low - 0xDC00)

-- a byte other than `\` says itself; `\` and a letter say a character; `\u` and four hexadecimal digits say the character of that unit of sixteen bits, unless
-- it is half a pair, and two halves together say theirs. Characters are said as UTF-8
pub data SaysText : List ℕ → List ℕ → Type 0 where
  nothing : SaysText [] []
  plain : {rest said : List ℕ} (b : ℕ) → (b == backslash) ≡ false → SaysText rest said → SaysText (b ∷ rest) (b ∷ said)
  short : {rest said : List ℕ} (letter code : ℕ) → short_escape letter ≡ Some code → SaysText rest said → SaysText (backslash ∷ letter ∷ rest) (encode_utf8 code ++ said)
  unit : {rest said : List ℕ} (a b c d code : ℕ) → hex4 (a ∷ b ∷ c ∷ d ∷ []) ≡ Some code → is_high code ≡ false → is_low code ≡ false → SaysText rest said → SaysText (backslash ∷ letter_u ∷ a ∷ b ∷ c ∷ d ∷ rest) (encode_utf8 code ++ said)
  pair : {rest said : List ℕ} (a b c d e f g h high low : ℕ) → hex4 (a ∷ b ∷ c ∷ d ∷ []) ≡ Some high → is_high high ≡ true → hex4 (e ∷ f ∷ g ∷ h ∷ []) ≡ Some low → is_low low ≡ true → SaysText rest said → SaysText (backslash ∷ letter_u ∷ a ∷ b ∷ c ∷ d ∷ backslash ∷ letter_u ∷ e ∷ f ∷ g ∷ h ∷ rest) (encode_utf8 (character_of high low) ++ said)
