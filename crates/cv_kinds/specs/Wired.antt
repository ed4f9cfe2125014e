-- A well-formed network: the ports of its connections are there, and no two share an inport.
use Rattle.std.specs.Prelude.{◌≡◌, ℕ, ◌<◌, ◌≤◌, List, [], ◌∷◌, slice_get, Option, Some, None}
use Rattle.cv_kinds.specs.declared.network.ActorSpec.{ActorSpec}
use Rattle.cv_kinds.specs.declared.network.Connection.{Connection}
use Rattle.cv_kinds.specs.Net.{Net}
use Rattle.cv_kinds.specs.KindRow.{row_of}

-- the actor is there and has an outport, or an inport, of that number
abbrev pub HasOutport : Option ActorSpec → ℕ → Type 0
HasOutport None port = ⊥
HasOutport (Some a) port = port < (row_of a.kind).outports

abbrev pub HasInport : Option ActorSpec → ℕ → Type 0
HasInport None port = ⊥
HasInport (Some a) port = port < (row_of a.kind).inports

-- an outport may feed several connections
pub record IsWired (net : Net) : Type 0 where
  pub producers : (c : ℕ) (j : Connection) → slice_get net.connections c ≡ Some j → HasOutport (slice_get net.actors j.from) j.out
  pub consumers : (c : ℕ) (j : Connection) → slice_get net.connections c ≡ Some j → HasInport (slice_get net.actors j.to) j.inp
  pub one_writer : (c d : ℕ) (j k : Connection) → slice_get net.connections c ≡ Some j → slice_get net.connections d ≡ Some k → j.to ≡ k.to → j.inp ≡ k.inp → c ≡ d

-- both ends of a connection are there
pub record HasPorts (actors : List ActorSpec) (j : Connection) : Type 0 where
  pub producer : HasOutport (slice_get actors j.from) j.out
  pub consumer : HasInport (slice_get actors j.to) j.inp

-- j stands at an inport before that of k: by consumer, then inport
abbrev pub IsBelow : Connection → Connection → Type 0
IsBelow j k = (j.to ≤ k.to) × (j.to ≡ k.to → j.inp < k.inp)

abbrev pub AllAbove : Connection → List Connection → Type 0
AllAbove j [] = Unit {0}
AllAbove j (k ∷ js) = IsBelow j k × AllAbove j js

-- connections stand by consumer, then inport; so each inport has at most one
abbrev pub Rising : List Connection → Type 0
Rising [] = Unit {0}
Rising (j ∷ js) = AllAbove j js × Rising js
