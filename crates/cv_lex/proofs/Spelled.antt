-- The lexemes of a text are those that it spells.
use Rattle.std.proofs.Common.{◌≡◌, ℕ, zero, suc, ◌+◌, ◌≤◌, Option, Some, None, Result, Ok, Err, List, [], ◌∷◌, ◌++◌, length, take, drop, refl, sym, ap, ◌∙◌, subst, inl, inr, arith}
use Rattle.std.specs.Prelude.{Vec, IfOk, IfErr}
use Rattle.cv_lex.specs.Faults.{IsCaused}
use Rattle.cv_lex.proofs.Faulty.{fails_caused}
use Rattle.std.proofs.lemmas.List.{length-take-le, take-append-drop}
use Rattle.cv_lex.specs.declared.lexeme.Sort.{Sort}
use Rattle.cv_lex.specs.declared.lexeme.Lexeme.{Lexeme}
use Rattle.cv_lex.specs.declared.lexeme.LexFault.{LexFault}
use Rattle.cv_lex.specs.declared.fronts.Front.{Front}
use Rattle.cv_lex.specs.declared.fronts.Front.TheVariants as fronts
use Rattle.cv_lex.specs.Fronts.{front_of}
use Rattle.cv_lex.specs.Lexemes.{lexemes, by_front, with_front, Gives}
use Rattle.cv_lex.specs.Shapes.{IsAt, Stands, IsInLimits}
use Rattle.cv_lex.specs.Spelling.{SpellsLexemes, nothing, blank, lexeme}
use Rattle.cv_lex.proofs.Agrees.{Agrees, front_agrees}
use Rattle.cv_lex.proofs.Covers.{Covers, front_size, drop-front, size_covers}
use Rattle.cv_lex.proofs.Right.{IsRight, take-front, size_right}
use Rattle.cv_lex.proofs.Sizes.{Size, size_of}
use Rattle.cv_lex.proofs.Stood.{stands}
use Rattle.cv_lex.proofs.Skips.{lexemes-blank, lexemes-lexeme}

-- a lexeme and those behind it
spelled_lexeme : (at b : ℕ) (rest : List ℕ) (sort : Sort) (more : ℕ) (r : Result (List Lexeme) LexFault) (ls : List Lexeme) → Stands (Some sort) (take (suc more) (b ∷ rest)) (drop more rest) → IsInLimits sort (take (suc more) (b ∷ rest)) → length (take (suc more) (b ∷ rest)) ≡ suc more → ((ms : List Lexeme) → r ≡ Ok ms → SpellsLexemes (at + 1 + more) (drop more rest) ms) → with_front (record { sort = sort; at = at; len = more + 1 } ∷ []) r ≡ Ok ls → SpellsLexemes at (b ∷ rest) ls
spelled_lexeme at b rest sort more (Err fault) ls s f count behind e = cc
spelled_lexeme at b rest sort more (Ok ms) ls s f count behind e =
    let front = take (suc more) (b ∷ rest) in
    let place : at + 1 + more ≡ at + length front = omega (arith, count) in
    let len : length front ≡ more + 1 = omega (arith, count) in
    let P : ℕ → Type 0 = λ k. SpellsLexemes k (drop more rest) ms in
    let Q : List ℕ → Type 0 = λ bytes. SpellsLexemes at bytes (record { sort = sort; at = at; len = length front } ∷ ms) in
    let all : record { sort = sort; at = at; len = more + 1 } ∷ ms ≡ ls = cc in
    let same : record { sort = sort; at = at; len = length front } ∷ ms ≡ ls = ap (λ (n : ℕ). record { sort = sort; at = at; len = n } ∷ ms) len ∙ all in
    subst (SpellsLexemes at (b ∷ rest)) same (subst Q (take-append-drop (suc more) (b ∷ rest)) (lexeme sort front s f (subst P place (behind ms refl))))

-- the lexemes behind what stands at the front
spelled_front : (at b : ℕ) (rest : List ℕ) (front : Front) (next : ℕ → Result (List Lexeme) LexFault) (ls : List Lexeme) → Agrees (b ∷ rest) front (size_of b rest) → ((k : ℕ) (ms : List Lexeme) → k ≤ length rest → next k ≡ Ok ms → SpellsLexemes (at + 1 + k) (drop k rest) ms) → by_front at front next ≡ Ok ls → SpellsLexemes at (b ∷ rest) ls
spelled_front at b rest (fronts.Blank more) next ls a behind e =
    let s = stands b rest None (suc more) a in
    let count : length (take (suc more) (b ∷ rest)) ≡ suc more = length-take-le (suc more) (b ∷ rest) s.1 in
    let place : at + 1 + more ≡ at + length (take (suc more) (b ∷ rest)) = omega (arith, count) in
    let P : ℕ → Type 0 = λ k. SpellsLexemes k (drop more rest) ls in
    let Q : List ℕ → Type 0 = λ bytes. SpellsLexemes at bytes ls in
    subst Q (take-append-drop (suc more) (b ∷ rest)) (blank (take (suc more) (b ∷ rest)) s.0 (subst P place (behind more ls (omega (arith, s.1)) e)))
spelled_front at b rest (fronts.Lexeme sort more) next ls a behind e =
    let s = stands b rest (Some sort) (suc more) a.0 in
    let front = take (suc more) (b ∷ rest) in
    let count : length front ≡ suc more = length-take-le (suc more) (b ∷ rest) s.1 in
    spelled_lexeme at b rest sort more (next more) ls s.0 a.1 count (λ ms h. behind more ms (omega (arith, s.1)) h) e
spelled_front at b rest (fronts.Flaw fault) next ls a behind e = cc

sound : (at k there : ℕ) (bytes : List ℕ) (ls : List Lexeme) → there ≡ at + k → k ≤ length bytes → lexemes at k bytes ≡ Ok ls → SpellsLexemes there (drop k bytes) ls
sound at zero there [] ls p h e = let same : [] ≡ ls = cc in subst (SpellsLexemes there []) same nothing
sound at (suc k) there [] ls p h e = absurd (omega arith)
sound at (suc k) there (b ∷ rest) ls p h e = sound (at + 1) k there rest ls (omega (arith, p)) (omega arith) e
sound at zero there (b ∷ rest) ls p h e =
    let P : ℕ → Type 0 = λ n. SpellsLexemes n (b ∷ rest) ls in
    let same : at ≡ there = omega (arith, p) in
    subst P same
    (spelled_front at b rest (front_of at (b ∷ rest)) (λ k. lexemes (at + 1) k rest) ls (front_agrees at b rest)
    (λ k ms w g. sound (at + 1) k (at + 1 + k) rest ms refl w g) e)

-- the lexemes are spelled
pub lexemes_spelled : (bytes : List ℕ) (ls : List Lexeme) → lexemes 0 0 bytes ≡ Ok ls → SpellsLexemes 0 bytes ls
lexemes_spelled bytes ls e = sound 0 0 0 bytes ls refl (omega arith) e

-- what stands at the front is found there
abbrev pub IsFound : Option Sort → ℕ → List ℕ → Type 0
IsFound thing n [] = ⊥
IsFound thing n (b ∷ rest) = size_of b rest ≡ Some (thing, n)

found_size : (thing : Option Sort) (n b : ℕ) (rest : List ℕ) (size : Size) → size_of b rest ≡ size → Covers thing n size → ((other : Option Sort) (m : ℕ) → size ≡ Some (other, m) → m ≤ n) → size_of b rest ≡ Some (thing, n)
found_size thing n b rest None e c longest = absurd c
found_size thing n b rest (Some found) e (inl h) longest = let bound = longest found.0 found.1 refl in absurd (omega arith)
found_size thing n b rest (Some found) e (inr h) longest =
    e ∙ ap (λ (t : Option Sort). Some (t, found.1)) (sym h.1) ∙ ap (λ (m : ℕ). Some (thing, m)) (sym h.0)

pub found : (thing : Option Sort) (front bytes : List ℕ) → ((other : Option Sort) (longer tail : List ℕ) → bytes ≡ longer ++ tail → IsAt other longer tail → length longer ≤ length front) → Covers thing (length front) (front_size bytes) → IsFound thing (length front) bytes
found thing front [] longest c = c
found thing front (b ∷ rest) longest c =
    found_size thing (length front) b rest _ refl c (λ other m e.
    let right = subst (IsRight (b ∷ rest)) e (size_right b rest) in
    let bound = longest other (take m (b ∷ rest)) (drop m (b ∷ rest)) (sym (take-append-drop m (b ∷ rest))) right.2 in
    omega (arith, bound, length-take-le m (b ∷ rest) right.1))

-- the parts of what is found
abbrev thing_of : Size → Option Sort
thing_of None = None
thing_of (Some found) = found.0

abbrev count_of : Size → ℕ
count_of None = 0
count_of (Some found) = found.1

pub thing_same : (s t : Option Sort) (m n : ℕ) → ◌≡◌ {A = Size} (Some (s, m)) (Some (t, n)) → s ≡ t
thing_same s t m n e = ap (λ (size : Size). thing_of size) e

pub size_same : (s t : Option Sort) (m n : ℕ) → ◌≡◌ {A = Size} (Some (s, m)) (Some (t, n)) → m ≡ n
size_same s t m n e = ap (λ (size : Size). count_of size) e

some_none : (sort : Sort) → Some sort ≡ None → ⊥
some_none sort e = cc

-- the next thing by what is found
blank_is : (bytes : List ℕ) (front : Front) (size : Size) (n : ℕ) → size ≡ Some (None, n) → Agrees bytes front size → (more : ℕ) × (fronts.Blank more ≡ front) × (suc more ≡ n)
blank_is bytes (fronts.Blank more) size n e a = let same : ◌≡◌ {A = Size} (Some (None, suc more)) (Some (None, n)) = sym a ∙ e in (more, refl, size_same None None (suc more) n same)
blank_is bytes (fronts.Lexeme sort more) size n e a = let same : ◌≡◌ {A = Size} (Some (Some sort, suc more)) (Some (None, n)) = sym a.0 ∙ e in absurd (some_none sort (thing_same (Some sort) None (suc more) n same))
blank_is bytes (fronts.Flaw fault) size n e a = absurd (subst (Agrees bytes (fronts.Flaw fault)) e a)

lexeme_is : (bytes : List ℕ) (front : Front) (size : Size) (sort : Sort) (n : ℕ) → size ≡ Some (Some sort, n) → IsInLimits sort (take n bytes) → Agrees bytes front size → (more : ℕ) × (fronts.Lexeme sort more ≡ front) × (suc more ≡ n)
lexeme_is bytes (fronts.Blank more) size sort n e f a = let same : ◌≡◌ {A = Size} (Some (None, suc more)) (Some (Some sort, n)) = sym a ∙ e in absurd (some_none sort (sym (thing_same None (Some sort) (suc more) n same)))
lexeme_is bytes (fronts.Lexeme other more) size sort n e f a =
    let same : ◌≡◌ {A = Size} (Some (Some other, suc more)) (Some (Some sort, n)) = sym a.0 ∙ e in
    let thing : Some other ≡ Some sort = thing_same (Some other) (Some sort) (suc more) n same in
    let kind : sort ≡ other = cc in
    (more, ap (λ (s : Sort). fronts.Lexeme s more) kind, size_same (Some other) (Some sort) (suc more) n same)
lexeme_is bytes (fronts.Flaw fault) size sort n e f a = absurd (subst (Agrees bytes (fronts.Flaw fault)) e a f)

-- a thing and the lexemes behind it
pub complete_blank : (at : ℕ) (front rest bytes : List ℕ) (r : Result (List Lexeme) LexFault) → bytes ≡ front ++ rest → IsFound None (length front) bytes → lexemes (at + length front) 0 rest ≡ r → lexemes at 0 bytes ≡ r
complete_blank at front rest [] r e f h = absurd f
complete_blank at front rest (b ∷ bytes) r e f h =
    let k = blank_is (b ∷ bytes) (front_of at (b ∷ bytes)) (size_of b bytes) (length front) f (front_agrees at b bytes) in
    let count : k.0 + 1 ≡ length front = omega (arith, k.2) in
    lexemes-blank at (b ∷ bytes) k.0 (omega arith) k.1
    ∙ ap (λ (n : ℕ). lexemes (at + n) 0 (drop n (b ∷ bytes))) count
    ∙ ap (λ (xs : List ℕ). lexemes (at + length front) 0 (drop (length front) xs)) e
    ∙ ap (lexemes (at + length front) 0) (drop-front front rest) ∙ h

pub complete_lexeme : (at : ℕ) (sort : Sort) (front rest bytes : List ℕ) (r : Result (List Lexeme) LexFault) → bytes ≡ front ++ rest → IsFound (Some sort) (length front) bytes → IsInLimits sort front → lexemes (at + length front) 0 rest ≡ r → lexemes at 0 bytes ≡ with_front (record { sort = sort; at = at; len = length front } ∷ []) r
complete_lexeme at sort front rest [] r e f fits h = absurd f
complete_lexeme at sort front rest (b ∷ bytes) r e f fits h =
    let first : take (length front) (b ∷ bytes) ≡ front = ap (take (length front)) e ∙ take-front front rest in
    let k = lexeme_is (b ∷ bytes) (front_of at (b ∷ bytes)) (size_of b bytes) sort (length front) f (subst (IsInLimits sort) (sym first) fits) (front_agrees at b bytes) in
    let count : k.0 + 1 ≡ length front = omega (arith, k.2) in
    let behind : lexemes (at + length front) 0 (drop (length front) (b ∷ bytes)) ≡ r =
    ap (λ (xs : List ℕ). lexemes (at + length front) 0 (drop (length front) xs)) e ∙ ap (lexemes (at + length front) 0) (drop-front front rest) ∙ h in
    lexemes-lexeme at (b ∷ bytes) sort k.0 (omega arith) k.1
    ∙ ap (λ (n : ℕ). with_front (record { sort = sort; at = at; len = n } ∷ []) (lexemes (at + n) 0 (drop n (b ∷ bytes)))) count
    ∙ ap (with_front (record { sort = sort; at = at; len = length front } ∷ [])) behind

-- what is spelled are the lexemes
pub spelled_lexemes : (at : ℕ) (bytes : List ℕ) (ls : List Lexeme) → SpellsLexemes at bytes ls → lexemes at 0 bytes ≡ Ok ls
spelled_lexemes at bytes ls nothing = refl
spelled_lexemes at bytes ls (blank {rest = rest} {lexemes = ms} front s h) =
    complete_blank at front rest (front ++ rest) (Ok ms) refl (found None front (front ++ rest) s.longest (size_covers None front rest s.is)) (spelled_lexemes (at + length front) rest ms h)
spelled_lexemes at bytes ls (lexeme {rest = rest} {lexemes = ms} sort front s f h) =
    complete_lexeme at sort front rest (front ++ rest) (Ok ms) refl (found (Some sort) front (front ++ rest) s.longest (size_covers (Some sort) front rest s.is)) f (spelled_lexemes (at + length front) rest ms h)

-- no bytes spell two lists
pub one_spelling : (bytes : List ℕ) (ls ms : List Lexeme) → SpellsLexemes 0 bytes ls → SpellsLexemes 0 bytes ms → ls ≡ ms
one_spelling bytes ls ms h k =
    let same : Ok ls ≡ Ok ms = sym (spelled_lexemes 0 bytes ls h) ∙ spelled_lexemes 0 bytes ms k in
    cc

-- an answer with the lexemes is spelled
pub gives_spelled : {A : Type 0} (answer : Result (Vec Lexeme A) LexFault) (bytes : List ℕ) → Gives answer (lexemes 0 0 bytes) → IfOk answer (λ found. SpellsLexemes 0 bytes found.items)
gives_spelled (Ok found) bytes h = lexemes_spelled bytes found.items h
gives_spelled (Err fault) bytes h = tt

-- an answer with a fault has its cause
pub gives_caused : {A : Type 0} (answer : Result (Vec Lexeme A) LexFault) (bytes : List ℕ) → Gives answer (lexemes 0 0 bytes) → IfErr answer (IsCaused bytes)
gives_caused (Ok found) bytes h = tt
gives_caused (Err fault) bytes h = fails_caused bytes fault h
