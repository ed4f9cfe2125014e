-- What a text says, form by form, is what is read from it.
use Rattle.std.proofs.Common.{◌≡◌, ℕ, zero, suc, ◌+◌, ◌==◌, Bool, true, false, cond, Option, Some, None, Result, Ok, Err, List, [], ◌∷◌, ◌++◌, length, drop, refl, sym, ap, ◌∙◌, subst, arith}
use Rattle.std.specs.Prelude.{encode_utf8, nat_eq, nat_lt, option_and_then, option_map}
use Rattle.std.specs.List.{starts_with}
use Rattle.std.proofs.lemmas.Bool.Decides.{nat_tests}
use Rattle.std.proofs.lemmas.Option.{none-some as none_some, same_Some}
use Rattle.cv_lex.specs.declared.escapes.Escape.{Escape}
use Rattle.cv_lex.specs.Texts.{hex4, is_high, is_low, pair_with, pair_of, unit_escape, short_escape, escape_of, with_bytes, by_escape, said_from}
use Rattle.cv_lex.specs.Saying.{SaysText, nothing, plain, short, unit, pair, character_of}

-- 1. What is said is read

-- the number of four digits does not depend on what follows them
hex4_front : (a b c d : ℕ) (rest : List ℕ) → hex4 (a ∷ b ∷ c ∷ d ∷ rest) ≡ hex4 (a ∷ b ∷ c ∷ d ∷ [])
hex4_front a b c d rest =
    let long : nat_lt (length (a ∷ b ∷ c ∷ d ∷ rest)) 4 ≡ false = grind (arith, nat_tests) in
    rw long refl

-- an escape begins with `u` or another letter
escape_front : (b : ℕ) (rest : List ℕ) → escape_of (b ∷ rest) ≡ cond (b == 117) (option_and_then (λ n. unit_escape n (drop 4 rest)) (hex4 rest)) (option_map (λ c. record { code = c; len = 1 }) (short_escape b))
escape_front b rest =
    let some : (length (b ∷ rest) == 0) ≡ false = grind (arith, nat_tests) in
    rw some refl

-- no letter that says a character is `u`
letter_apart : (letter code : ℕ) → short_escape letter ≡ Some code → (b : Bool) → (letter == 117) ≡ b → b ≡ false
letter_apart letter code is true e =
    let u : letter ≡ 117 = grind (arith, nat_tests, e) in
    absurd (none_some code (ap short_escape (sym u) ∙ is))
letter_apart letter code is false e = refl

reads_escape : (at : ℕ) (bytes rest said : List ℕ) (escape : Escape) → escape_of bytes ≡ Some escape → said_from (at + 1) escape.len bytes ≡ Ok said → said_from at 0 (92 ∷ bytes) ≡ Ok (encode_utf8 escape.code ++ said)
reads_escape at bytes rest said escape is next = rw is (ap (with_bytes (encode_utf8 escape.code)) next)

pub says_read : (at : ℕ) (inside said : List ℕ) → SaysText inside said → said_from at 0 inside ≡ Ok said
says_read at inside said nothing = refl
says_read at inside said (plain {rest = rest} {said = more} b apart says) =
    rw apart (ap (with_bytes (b ∷ [])) (says_read (at + 1) rest more says))
says_read at inside said (short {rest = rest} {said = more} letter code is says) =
    reads_escape at (letter ∷ rest) rest more (record { code = code; len = 1 }) (escape_front letter rest ∙ rw (letter_apart letter code is (letter == 117) refl, is) refl) (says_read (at + 1 + 1) rest more says)
says_read at inside said (unit {rest = rest} {said = more} a b c d code is high low says) =
    reads_escape at (117 ∷ a ∷ b ∷ c ∷ d ∷ rest) rest more (record { code = code; len = 5 }) (escape_front 117 (a ∷ b ∷ c ∷ d ∷ rest) ∙ ap (option_and_then (λ u. unit_escape u rest)) (hex4_front a b c d rest ∙ is) ∙ rw (high, low) refl) (says_read (at + 1 + 1 + 1 + 1 + 1 + 1) rest more says)
says_read at inside said (pair {rest = rest} {said = more} a b c d e f g h first second is high next low says) =
    reads_escape at (117 ∷ a ∷ b ∷ c ∷ d ∷ 92 ∷ 117 ∷ e ∷ f ∷ g ∷ h ∷ rest) rest more (record { code = character_of first second; len = 11 }) (escape_front 117 (a ∷ b ∷ c ∷ d ∷ 92 ∷ 117 ∷ e ∷ f ∷ g ∷ h ∷ rest) ∙ ap (option_and_then (λ u. unit_escape u (92 ∷ 117 ∷ e ∷ f ∷ g ∷ h ∷ rest))) (hex4_front a b c d (92 ∷ 117 ∷ e ∷ f ∷ g ∷ h ∷ rest) ∙ is) ∙ rw high (ap (pair_with first) (hex4_front e f g h rest ∙ next) ∙ rw low refl)) (says_read (at + 1 + 1 + 1 + 1 + 1 + 1 + 1 + 1 + 1 + 1 + 1 + 1) rest more says)

-- no text says two
pub says_once : (inside first second : List ℕ) → SaysText inside first → SaysText inside second → first ≡ second
says_once inside first second says speaks =
    let same : Ok first ≡ Ok second = sym (says_read 0 inside first says) ∙ says_read 0 inside second speaks in
    cc

-- 2. What is read is said

-- four hexadecimal digits in front
record Digits (bytes : List ℕ) (code : ℕ) : Type 0 where
  a : ℕ
  b : ℕ
  c : ℕ
  d : ℕ
  rest : List ℕ
  is : bytes ≡ a ∷ b ∷ c ∷ d ∷ rest
  says : hex4 (a ∷ b ∷ c ∷ d ∷ []) ≡ Some code

digits_of : (bytes : List ℕ) (code : ℕ) → hex4 bytes ≡ Some code → Digits bytes code
digits_of [] code h = absurd (none_some code h)
digits_of (a ∷ []) code h = absurd (none_some code h)
digits_of (a ∷ b ∷ []) code h = absurd (none_some code h)
digits_of (a ∷ b ∷ c ∷ []) code h = absurd (none_some code h)
digits_of (a ∷ b ∷ c ∷ d ∷ rest) code h = record { a = a; b = b; c = c; d = d; rest = rest; is = refl; says = sym (hex4_front a b c d rest) ∙ h }

-- a text whose front is an escape, once it is known what follows the escape
abbrev Follows : List ℕ → List ℕ → Escape → Type 0
Follows bytes said escape =
    SaysText (drop escape.len bytes) said → SaysText (92 ∷ bytes) (encode_utf8 escape.code ++ said)

follows_as : (bytes said : List ℕ) (e escape : Escape) → Follows bytes said e → Some e ≡ Some escape → Follows bytes said escape
follows_as bytes said e escape follows is = subst (Follows bytes said) (same_Some e escape is) follows

second_half : (a b c d e f g h first second : ℕ) (rest said : List ℕ) (escape : Escape) → hex4 (a ∷ b ∷ c ∷ d ∷ []) ≡ Some first → is_high first ≡ true → hex4 (e ∷ f ∷ g ∷ h ∷ []) ≡ Some second → (low : Bool) → is_low second ≡ low → cond low (Some (record { code = character_of first second; len = 11 })) None ≡ Some escape → Follows (117 ∷ a ∷ b ∷ c ∷ d ∷ 92 ∷ 117 ∷ e ∷ f ∷ g ∷ h ∷ rest) said escape
second_half a b c d e f g h first second rest said escape one high two false low is = absurd (none_some escape is)
second_half a b c d e f g h first second rest said escape one high two true low is =
    follows_as (117 ∷ a ∷ b ∷ c ∷ d ∷ 92 ∷ 117 ∷ e ∷ f ∷ g ∷ h ∷ rest) said (record { code = character_of first second; len = 11 }) escape (λ says. pair a b c d e f g h first second one high two low says) is

behind_half : (a b c d first : ℕ) (more said : List ℕ) (escape : Escape) → hex4 (a ∷ b ∷ c ∷ d ∷ []) ≡ Some first → is_high first ≡ true → (o : Option ℕ) → hex4 more ≡ o → pair_with first o ≡ Some escape → Follows (117 ∷ a ∷ b ∷ c ∷ d ∷ 92 ∷ 117 ∷ more) said escape
behind_half a b c d first more said escape one high None two is = absurd (none_some escape is)
behind_half a b c d first more said escape one high (Some second) two is =
    let ds = digits_of more second two in
    subst (λ (bytes : List ℕ). Follows (117 ∷ a ∷ b ∷ c ∷ d ∷ 92 ∷ 117 ∷ bytes) said escape) (sym ds.is) (second_half a b c d ds.a ds.b ds.c ds.d first second ds.rest said escape one high ds.says (is_low second) refl is)

marked : (x y : ℕ) (more : List ℕ) → starts_with nat_eq (x ∷ y ∷ more) (92 ∷ 117 ∷ []) ≡ true → (x ≡ 92) × (y ≡ 117)
marked x y more is = (grind (arith, nat_tests, is), grind (arith, nat_tests, is))

-- what stands behind a first half
first_half : (a b c d first : ℕ) (rest said : List ℕ) (escape : Escape) → hex4 (a ∷ b ∷ c ∷ d ∷ []) ≡ Some first → is_high first ≡ true → (mark : Bool) → starts_with nat_eq rest (92 ∷ 117 ∷ []) ≡ mark → cond mark (pair_with first (hex4 (drop 2 rest))) None ≡ Some escape → Follows (117 ∷ a ∷ b ∷ c ∷ d ∷ rest) said escape
first_half a b c d first rest said escape one high false mark is = absurd (none_some escape is)
first_half a b c d first [] said escape one high true mark is = cc
first_half a b c d first (x ∷ []) said escape one high true mark is = absurd (grind (arith, nat_tests, mark))
first_half a b c d first (x ∷ y ∷ more) said escape one high true mark is =
    let m = marked x y more mark in
    subst (λ (n : ℕ). Follows (117 ∷ a ∷ b ∷ c ∷ d ∷ n ∷ y ∷ more) said escape) (sym m.0) (subst (λ (n : ℕ). Follows (117 ∷ a ∷ b ∷ c ∷ d ∷ 92 ∷ n ∷ more) said escape) (sym m.1) (behind_half a b c d first more said escape one high (hex4 more) refl is))

unit_says : (a b c d code : ℕ) (rest said : List ℕ) (escape : Escape) → hex4 (a ∷ b ∷ c ∷ d ∷ []) ≡ Some code → (high : Bool) → is_high code ≡ high → (low : Bool) → is_low code ≡ low → cond high (pair_of code rest) (cond low None (Some (record { code = code; len = 5 }))) ≡ Some escape → Follows (117 ∷ a ∷ b ∷ c ∷ d ∷ rest) said escape
unit_says a b c d code rest said escape digits true high low l is = first_half a b c d code rest said escape digits high (starts_with nat_eq rest (92 ∷ 117 ∷ [])) refl is
unit_says a b c d code rest said escape digits false high true low is = absurd (none_some escape is)
unit_says a b c d code rest said escape digits false high false low is =
    follows_as (117 ∷ a ∷ b ∷ c ∷ d ∷ rest) said (record { code = code; len = 5 }) escape (λ says. unit a b c d code digits high low says) is

u_says : (bytes said : List ℕ) (escape : Escape) (o : Option ℕ) → hex4 bytes ≡ o → option_and_then (λ u. unit_escape u (drop 4 bytes)) o ≡ Some escape → Follows (117 ∷ bytes) said escape
u_says bytes said escape None digits is = absurd (none_some escape is)
u_says bytes said escape (Some code) digits is =
    let ds = digits_of bytes code digits in
    subst (λ (bs : List ℕ). unit_escape code (drop 4 bs) ≡ Some escape → Follows (117 ∷ bs) said escape) (sym ds.is) (unit_says ds.a ds.b ds.c ds.d code ds.rest said escape ds.says (is_high code) refl (is_low code) refl) is

short_says : (letter : ℕ) (rest said : List ℕ) (escape : Escape) (o : Option ℕ) → short_escape letter ≡ o → option_map (λ c. record { code = c; len = 1 }) o ≡ Some escape → Follows (letter ∷ rest) said escape
short_says letter rest said escape None letters is = absurd (none_some escape is)
short_says letter rest said escape (Some code) letters is =
    follows_as (letter ∷ rest) said (record { code = code; len = 1 }) escape (λ says. short letter code letters says) is

letter_says : (b : ℕ) (rest said : List ℕ) (escape : Escape) (u : Bool) → (b == 117) ≡ u → cond u (option_and_then (λ n. unit_escape n (drop 4 rest)) (hex4 rest)) (option_map (λ c. record { code = c; len = 1 }) (short_escape b)) ≡ Some escape → Follows (b ∷ rest) said escape
letter_says b rest said escape true u is =
    let same : b ≡ 117 = grind (arith, nat_tests, u) in
    subst (λ (n : ℕ). Follows (n ∷ rest) said escape) (sym same) (u_says rest said escape (hex4 rest) refl is)
letter_says b rest said escape false u is = short_says b rest said escape (short_escape b) refl is

escape_says : (bytes said : List ℕ) (escape : Escape) → escape_of bytes ≡ Some escape → Follows bytes said escape
escape_says [] said escape is = absurd (none_some escape is)
escape_says (b ∷ rest) said escape is = letter_says b rest said escape (b == 117) refl (sym (escape_front b rest) ∙ is)

-- bytes and what was read behind them
says_behind : (bytes front said : List ℕ) (r : Result (List ℕ) ℕ) → ((more : List ℕ) → r ≡ Ok more → SaysText bytes (front ++ more)) → with_bytes front r ≡ Ok said → SaysText bytes said
says_behind bytes front said (Ok more) says is =
    let same : front ++ more ≡ said = cc in
    subst (SaysText bytes) same (says more refl)
says_behind bytes front said (Err place) says is = cc

by_escape_says : (at : ℕ) (bytes said : List ℕ) (o : Option Escape) → escape_of bytes ≡ o → ((k : ℕ) (more : List ℕ) → said_from (at + 1) k bytes ≡ Ok more → SaysText (drop k bytes) more) → by_escape at o (λ k. said_from (at + 1) k bytes) ≡ Ok said → SaysText (92 ∷ bytes) said
by_escape_says at bytes said None escapes next is = cc
by_escape_says at bytes said (Some escape) escapes next is =
    says_behind (92 ∷ bytes) (encode_utf8 escape.code) said (said_from (at + 1) escape.len bytes) (λ more read. escape_says bytes more escape escapes (next escape.len more read)) is

byte_says : (at b : ℕ) (bytes said : List ℕ) (u : Bool) → (b == 92) ≡ u → ((k : ℕ) (more : List ℕ) → said_from (at + 1) k bytes ≡ Ok more → SaysText (drop k bytes) more) → cond u (by_escape at (escape_of bytes) (λ k. said_from (at + 1) k bytes)) (with_bytes (b ∷ []) (said_from (at + 1) 0 bytes)) ≡ Ok said → SaysText (b ∷ bytes) said
byte_says at b bytes said true u next is =
    let same : b ≡ 92 = grind (arith, nat_tests, u) in
    subst (λ (n : ℕ). SaysText (n ∷ bytes) said) (sym same) (by_escape_says at bytes said (escape_of bytes) refl next is)
byte_says at b bytes said false u next is =
    says_behind (b ∷ bytes) (b ∷ []) said (said_from (at + 1) 0 bytes) (λ more read. plain b u (next 0 more read)) is

pub read_says : (at k : ℕ) (inside said : List ℕ) → said_from at k inside ≡ Ok said → SaysText (drop k inside) said
read_says at zero [] said is = let same : [] ≡ said = cc in subst (SaysText []) same nothing
read_says at (suc k) [] said is = let same : [] ≡ said = cc in subst (SaysText []) same nothing
read_says at (suc k) (b ∷ bytes) said is = read_says (at + 1) k bytes said is
read_says at zero (b ∷ bytes) said is = byte_says at b bytes said (b == 92) refl (λ k more read. read_says (at + 1) k bytes more read) is
