-- The text that the prints of a network have printed.
use Rattle.std.specs.Prelude.{◌≡◌, ℕ, suc, IsPermutation, IsSorted, ◌==◌, ◌&&◌, if◌then◌else◌, List, [], ◌∷◌, ◌++◌, take}
use Rattle.std.specs.List.{flat_map}
use Rattle.cv_token.specs.declared.token.Token.{Token}
use Rattle.cv_token.specs.Spelling.{spelling}
use Rattle.cv_kinds.specs.declared.network.Connection.{Connection}
use Rattle.std.specs.Ordering.{ordering_then, nat_cmp}
use Rattle.std.specs.Cmp.Lexicographic.{slice_cmp}
use Rattle.std.specs.declared.cmp.Ordering.{Ordering}
use Rattle.cv_kinds.specs.declared.network.ActorSpec.{ActorSpec}
use Rattle.cv_kinds.specs.Net.{Net}
use Rattle.cv_kinds.specs.KindRow.{is_print}
use Rattle.cv_solo.specs.declared.stream.Stream.{Stream}

-- the tokens that were taken at an inport
abbrev pub taken_at : List Connection → List Stream → ℕ → ℕ → List Token
taken_at [] streams actor port = []
taken_at (j ∷ js) [] actor port = []
taken_at (j ∷ js) (s ∷ ss) actor port = if (j.to == actor) && (j.inp == port) then take s.took s.wrote else taken_at js ss actor port

-- a line `PATH TOKEN` for each token
abbrev pub print_line : List ℕ → Token → List ℕ
print_line path token = path ++ 32 ∷ spelling token ++ 10 ∷ []

abbrev pub print_lines : List ℕ → List Token → List ℕ
print_lines path tokens = flat_map (λ t. print_line path t) tokens

-- the prints among actors, each by its path and its place, for the actors from number `place` on
abbrev pub print_of : ℕ → ActorSpec → List (List ℕ × ℕ)
print_of place a = if is_print a.kind then (a.path, place) ∷ [] else []

abbrev pub prints_from : ℕ → List ActorSpec → List (List ℕ × ℕ)
prints_from place [] = []
prints_from place (a ∷ rest) = print_of place a ++ prints_from (suc place) rest

-- prints go by the bytes of their paths, and by their places where two had one path
abbrev pub print_cmp : List ℕ × ℕ → List ℕ × ℕ → Ordering
print_cmp p q = ordering_then (slice_cmp nat_cmp p.0 q.0) (nat_cmp p.1 q.1)

-- all prints, in their order
pub record InPathOrder (actors : List ActorSpec) (order : List (List ℕ × ℕ)) : Type 0 where
  pub all : IsPermutation (prints_from 0 actors) order
  pub sorted : IsSorted print_cmp order

-- the lines of prints in that order: one for each token taken
abbrev pub lines_of : List Connection → List Stream → List (List ℕ × ℕ) → List ℕ
lines_of connections streams order = flat_map (λ p. print_lines p.0 (taken_at connections streams p.1 0)) order

-- the text that the prints of a network have printed
pub record IsPrinted (net : Net) (streams : List Stream) (text : List ℕ) : Type 0 where
  pub order : List (List ℕ × ℕ)
  pub in_order : InPathOrder net.actors order
  pub is : text ≡ lines_of net.connections streams order
