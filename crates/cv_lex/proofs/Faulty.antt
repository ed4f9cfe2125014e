-- The fault of a text is where things lead to, and has its cause there.
use Rattle.std.proofs.Common.{◌≡◌, ℕ, zero, suc, ◌+◌, ◌≤◌, Some, None, Result, Ok, Err, List, [], ◌∷◌, length, take, drop, refl, subst, arith}
use Rattle.std.proofs.lemmas.List.{length-take-le, take-append-drop}
use Rattle.cv_lex.specs.declared.lexeme.Lexeme.{Lexeme}
use Rattle.cv_lex.specs.declared.lexeme.LexFault.{LexFault}
use Rattle.cv_lex.specs.declared.lexeme.LexFault.TheVariants as faults
use Rattle.cv_lex.specs.declared.fronts.Front.{Front}
use Rattle.cv_lex.specs.declared.fronts.Front.TheVariants as fronts
use Rattle.cv_lex.specs.Faults.{ReadsOn, here, blank, lexeme, IsFaultAt, HasFault, IsCaused}
use Rattle.cv_lex.specs.Fronts.{front_of}
use Rattle.cv_lex.specs.Lexemes.{lexemes, by_front, with_front, Fails}
use Rattle.cv_lex.proofs.Agrees.{Agrees, front_agrees}
use Rattle.cv_lex.proofs.Causes.{flaw_caused}
use Rattle.cv_lex.proofs.Sizes.{size_of}
use Rattle.cv_lex.proofs.Stood.{stands}

-- from a place on the text leads to the fault
abbrev LeadsTo : ℕ → List ℕ → LexFault → Type 0
LeadsTo at bytes fault = (place : ℕ) × (left : List ℕ) × ReadsOn at bytes place left × IsFaultAt fault place left

-- lexemes in front leave the fault
with_front-err : (ls : List Lexeme) (r : Result (List Lexeme) LexFault) (fault : LexFault) → with_front ls r ≡ Err fault → r ≡ Err fault
with_front-err ls (Ok ms) fault e = cc
with_front-err ls (Err other) fault e = e

leads_front : (at b : ℕ) (rest : List ℕ) (front : Front) (next : ℕ → Result (List Lexeme) LexFault) (fault : LexFault) → front_of at (b ∷ rest) ≡ front → Agrees (b ∷ rest) front (size_of b rest) → ((k : ℕ) → k ≤ length rest → next k ≡ Err fault → LeadsTo (at + 1 + k) (drop k rest) fault) → by_front at front next ≡ Err fault → LeadsTo at (b ∷ rest) fault
leads_front at b rest (fronts.Blank more) next fault f a behind e =
    let s = stands b rest None (suc more) a in
    let front = take (suc more) (b ∷ rest) in
    let count : length front ≡ suc more = length-take-le (suc more) (b ∷ rest) s.1 in
    let place : at + 1 + more ≡ at + length front = omega (arith, count) in
    let g = behind more (omega (arith, s.1)) e in
    let P : ℕ → Type 0 = λ k. ReadsOn k (drop more rest) g.0 g.1 in
    let Q : List ℕ → Type 0 = λ bytes. ReadsOn at bytes g.0 g.1 in
    (g.0, g.1, subst Q (take-append-drop (suc more) (b ∷ rest)) (blank front s.0 (subst P place g.2)), g.3)
leads_front at b rest (fronts.Lexeme sort more) next fault f a behind e =
    let s = stands b rest (Some sort) (suc more) a.0 in
    let front = take (suc more) (b ∷ rest) in
    let count : length front ≡ suc more = length-take-le (suc more) (b ∷ rest) s.1 in
    let place : at + 1 + more ≡ at + length front = omega (arith, count) in
    let g = behind more (omega (arith, s.1)) (with_front-err (record { sort = sort; at = at; len = more + 1 } ∷ []) (next more) fault e) in
    let P : ℕ → Type 0 = λ k. ReadsOn k (drop more rest) g.0 g.1 in
    let Q : List ℕ → Type 0 = λ bytes. ReadsOn at bytes g.0 g.1 in
    (g.0, g.1, subst Q (take-append-drop (suc more) (b ∷ rest)) (lexeme sort front s.0 a.1 (subst P place g.2)), g.3)
leads_front at b rest (fronts.Flaw other) next fault f a behind e =
    let same : other ≡ fault = cc in
    let P : LexFault → Type 0 = λ x. IsFaultAt x at (b ∷ rest) in
    (at, b ∷ rest, here, subst P same (flaw_caused at b rest other f))

leads : (at k there : ℕ) (bytes : List ℕ) (fault : LexFault) → there ≡ at + k → k ≤ length bytes → lexemes at k bytes ≡ Err fault → LeadsTo there (drop k bytes) fault
leads at k there [] fault p h e = cc
leads at (suc k) there (b ∷ rest) fault p h e = leads (at + 1) k there rest fault (omega (arith, p)) (omega arith) e
leads at zero there (b ∷ rest) fault p h e =
    let P : ℕ → Type 0 = λ n. LeadsTo n (b ∷ rest) fault in
    let same : at ≡ there = omega (arith, p) in
    subst P same
    (leads_front at b rest (front_of at (b ∷ rest)) (λ k. lexemes (at + 1) k rest) fault refl (front_agrees at b rest)
    (λ k w g. leads (at + 1) k (at + 1 + k) rest fault refl w g) e)

has_fault : (bytes : List ℕ) (fault : LexFault) → lexemes 0 0 bytes ≡ Err fault → HasFault bytes fault
has_fault bytes fault e = leads 0 0 0 bytes fault refl (omega arith) e

-- each fault but want of memory is the text's
pub fails_caused : (bytes : List ℕ) (fault : LexFault) → Fails fault (lexemes 0 0 bytes) → IsCaused bytes fault
fails_caused bytes (faults.BadChar at) h = has_fault bytes (faults.BadChar at) h
fails_caused bytes (faults.OpenText at) h = has_fault bytes (faults.OpenText at) h
fails_caused bytes (faults.OpenComment at) h = has_fault bytes (faults.OpenComment at) h
fails_caused bytes (faults.WideNumber at) h = has_fault bytes (faults.WideNumber at) h
fails_caused bytes (faults.BadEscape at) h = has_fault bytes (faults.BadEscape at) h
fails_caused bytes (faults.LongName at) h = has_fault bytes (faults.LongName at) h
fails_caused bytes faults.OutOfMemory h = tt
