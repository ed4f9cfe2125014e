-- The shapes of what stands in a text, by the rules of the grammar.
use Rattle.std.specs.Prelude.{◌≡◌, ◌≢◌, ℕ, ◌-◌, ◌≤◌, Bool, true, ◌⊎◌, Option, Some, None, is_some, List, [], ◌∷◌, ◌++◌, length, take, drop}
use Rattle.std.specs.List.{AllByRecursion}
use Rattle.cv_lex.specs.Characters.{backslash, dot, greater, minus, quote, slash, star}
use Rattle.cv_lex.specs.declared.lexeme.Sort.{Sort}
use Rattle.cv_lex.specs.declared.lexeme.Sort.TheVariants as sorts
use Rattle.cv_lex.specs.Bytes.{is_blank_byte, is_name_start, is_name_byte, is_digit, is_mark_byte, is_in_line}
use Rattle.cv_lex.specs.Numbers.{int_of}
use Rattle.cv_lex.specs.Texts.{said_from, bad_of}

-- each byte passes
abbrev pub Each : (ℕ → Bool) → List ℕ → Type 0
Each p bytes = AllByRecursion (λ b. p b ≡ true) bytes

-- a letter or `_`, then letters, digits and `_`
abbrev pub IsName : List ℕ → Type 0
IsName [] = ⊥
IsName (b ∷ bytes) = (is_name_start b ≡ true) × Each is_name_byte bytes

-- one digit or more
abbrev pub AreDigits : List ℕ → Type 0
AreDigits [] = ⊥
AreDigits (b ∷ bytes) = (is_digit b ≡ true) × Each is_digit bytes

-- digits, or `-` and digits
abbrev pub IsInt : List ℕ → Type 0
IsInt [] = ⊥
IsInt (b ∷ bytes) = AreDigits (b ∷ bytes) ⊎ ((b ≡ minus) × AreDigits bytes)

-- an integer, a dot and digits
abbrev pub IsFraction : List ℕ → Type 0
IsFraction bytes = (whole : List ℕ) × (part : List ℕ) × IsInt whole × AreDigits part × (bytes ≡ whole ++ dot ∷ part)

-- bytes that are neither a quote nor a `\`, and pairs of a `\` and any byte
pub data IsInside : List ℕ → Type 0 where
  nothing : IsInside []
  plain : {bytes : List ℕ} (b : ℕ) → b ≢ quote → b ≢ backslash → IsInside bytes → IsInside (b ∷ bytes)
  hidden : {bytes : List ℕ} (b : ℕ) → IsInside bytes → IsInside (backslash ∷ b ∷ bytes)

-- a quote, an inside and a quote
abbrev pub IsText : List ℕ → Type 0
IsText bytes = (inside : List ℕ) × IsInside inside × (bytes ≡ quote ∷ (inside ++ quote ∷ []))

-- one of ( ) { } [ ] , : . = > & | ~ or `->`
abbrev pub IsMark : List ℕ → Type 0
IsMark [] = ⊥
IsMark (b ∷ []) = is_mark_byte b ≡ true
IsMark (b ∷ c ∷ []) = (b ≡ minus) × (c ≡ greater)
IsMark (b ∷ c ∷ d ∷ bytes) = ⊥

-- the part stands nowhere in the body and itself but at the end
abbrev pub FirstIs : List ℕ → List ℕ → Type 0
FirstIs part body = (front back : List ℕ) → body ++ part ≡ front ++ (part ++ back) → length body ≤ length front

-- an opening, a body and the first closing
abbrev pub IsClosed : List ℕ → List ℕ → List ℕ → Type 0
IsClosed opening close bytes = (body : List ℕ) × FirstIs close body × (bytes ≡ opening ++ (body ++ close))

-- a white byte, `//` in its line, `/*` to the first `*/`, or `"""` to the next `"""`
pub data IsBlank (bytes : List ℕ) : Type 0 where
  space : (b : ℕ) → is_blank_byte b ≡ true → bytes ≡ b ∷ [] → IsBlank bytes
  line : (rest : List ℕ) → Each is_in_line rest → bytes ≡ slash ∷ slash ∷ rest → IsBlank bytes
  block : IsClosed (slash ∷ star ∷ []) (star ∷ slash ∷ []) bytes → IsBlank bytes
  quotes : IsClosed (quote ∷ quote ∷ quote ∷ []) (quote ∷ quote ∷ quote ∷ []) bytes → IsBlank bytes

-- white space or a comment (None), or a lexeme of a sort, with what follows it; `"""` always begins a comment, so no text begins so
abbrev pub IsAt : Option Sort → List ℕ → List ℕ → Type 0
IsAt None front rest = IsBlank front
IsAt (Some sorts.Name) front rest = IsName front
IsAt (Some sorts.Int) front rest = IsInt front
IsAt (Some sorts.Fraction) front rest = IsFraction front
IsAt (Some sorts.Text) front rest = IsText front × ((tail : List ℕ) → front ++ rest ≢ quote ∷ quote ∷ quote ∷ tail)
IsAt (Some sorts.Mark) front rest = IsMark front

-- the longest that stands there
pub record Stands (thing : Option Sort) (front rest : List ℕ) : Type 0 where
  pub is : IsAt thing front rest
  pub longest : (other : Option Sort) (longer tail : List ℕ) → front ++ rest ≡ longer ++ tail → IsAt other longer tail → length longer ≤ length front

-- the limits: a name has at most 64 bytes, an integer 64 signed bits, and each escape of a text says a character
abbrev pub IsInLimits : Sort → List ℕ → Type 0
IsInLimits sorts.Name bytes = length bytes ≤ 64
IsInLimits sorts.Int bytes = is_some (int_of bytes) ≡ true
IsInLimits sorts.Fraction bytes = Unit {0}
IsInLimits sorts.Text bytes = bad_of (said_from 0 0 (take (length bytes - 2) (drop 1 bytes))) ≡ None
IsInLimits sorts.Mark bytes = Unit {0}
