-- The lexemes of a text.
use Rattle.std.specs.Prelude.{◌≡◌, ℕ, zero, suc, ◌+◌, ◌<◌, ◌≤◌, List, [], ◌∷◌, ◌++◌, Result, Ok, Err, Vec}
use Rattle.cv_lex.specs.declared.lexeme.Lexeme.{Lexeme}
use Rattle.cv_lex.specs.declared.lexeme.LexFault.{LexFault}
use Rattle.cv_lex.specs.declared.lexeme.LexFault.TheVariants as faults
use Rattle.cv_lex.specs.declared.fronts.Front.{Front}
use Rattle.cv_lex.specs.declared.fronts.Front.TheVariants as fronts
use Rattle.cv_lex.specs.Fronts.{front_of}

-- lexemes and those that follow them
abbrev pub with_front : List Lexeme → Result (List Lexeme) LexFault → Result (List Lexeme) LexFault
with_front front (Ok more) = Ok (front ++ more)
with_front front (Err fault) = Err fault

-- one thing at a place, and the lexemes behind it
abbrev pub by_front : ℕ → Front → (ℕ → Result (List Lexeme) LexFault) → Result (List Lexeme) LexFault
by_front at (fronts.Blank more) behind = behind more
by_front at (fronts.Lexeme sort more) behind = with_front (record { sort = sort; at = at; len = more + 1 } ∷ []) (behind more)
by_front at (fronts.Flaw fault) behind = Err fault

-- the lexemes of a text that begins at a place, where k bytes belong to what stood before; or the first fault
abbrev pub lexemes : ℕ → ℕ → List ℕ → Result (List Lexeme) LexFault
lexemes at k [] = Ok []
lexemes at (suc k) (x ∷ rest) = lexemes (at + 1) k rest
lexemes at zero (x ∷ rest) = by_front at (front_of at (x ∷ rest)) (λ k. lexemes (at + 1) k rest)

-- an answer that is a fault: want of memory may come at any time, each other fault is the text's
abbrev pub Fails : LexFault → Result (List Lexeme) LexFault → Type 0
Fails (faults.BadChar at) answer = answer ≡ Err (faults.BadChar at)
Fails (faults.OpenText at) answer = answer ≡ Err (faults.OpenText at)
Fails (faults.OpenComment at) answer = answer ≡ Err (faults.OpenComment at)
Fails (faults.WideNumber at) answer = answer ≡ Err (faults.WideNumber at)
Fails (faults.BadEscape at) answer = answer ≡ Err (faults.BadEscape at)
Fails (faults.LongName at) answer = answer ≡ Err (faults.LongName at)
Fails faults.OutOfMemory answer = Unit {0}

-- what was answered is the answer, but for want of memory
abbrev pub Gives : {A : Type 0} → Result (Vec Lexeme A) LexFault → Result (List Lexeme) LexFault → Type 0
Gives (Ok found) answer = answer ≡ Ok found.items
Gives (Err fault) answer = Fails fault answer

-- lexemes stand one behind another between two places, and each has bytes
abbrev pub Rise : ℕ → List Lexeme → ℕ → Type 0
Rise from [] end = from ≤ end
Rise from (lexeme ∷ more) end = (from ≤ lexeme.at) × (0 < lexeme.len) × Rise (lexeme.at + lexeme.len) more end
