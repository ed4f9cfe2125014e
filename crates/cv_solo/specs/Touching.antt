-- The connections that touch an actor, and what a firing does where it looks at these alone.
use Rattle.std.specs.Prelude.{◌≡◌, ℕ, zero, suc, ◌<◌, Bool, ◌==◌, ◌||◌, if◌then◌else◌, List, [], ◌∷◌, ◌++◌, length, slice_index_or}
use Rattle.cv_kinds.specs.declared.network.Connection.{Connection}
use Rattle.cv_solo.specs.declared.stream.Stream.{Stream}

-- a connection touches the actors that it leads to and from
abbrev pub touches : Connection → ℕ → Bool
touches j actor = (j.to == actor) || (j.from == actor)

-- the places, from a number on, of the connections that touch an actor, in rising order
abbrev pub touching_from : ℕ → List Connection → ℕ → List ℕ
touching_from place [] actor = []
touching_from place (j ∷ js) actor = (if touches j actor then place ∷ [] else []) ++ touching_from (suc place) js actor

abbrev pub touching : List Connection → ℕ → List ℕ
touching connections actor = touching_from 0 connections actor

-- each actor has the places of the connections that touch it
pub record AreTouching (places : List (List ℕ)) (connections : List Connection) (actors : ℕ) : Type 0 where
  pub by_actor : length places ≡ actors
  pub each : (actor : ℕ) → actor < actors → slice_index_or places actor [] ≡ touching connections actor

-- the actors that pass the test have one place more at the end, the others what they had
pub record IsNoted (test : ℕ → Bool) (place : ℕ) (before after : List (List ℕ)) : Type 0 where
  pub as_many : length after ≡ length before
  pub each : (actor : ℕ) → actor < length before → slice_index_or after actor [] ≡ slice_index_or before actor [] ++ (if test actor then place ∷ [] else [])

-- what is done to a connection, at its place alone
abbrev pub changed_at : (Connection → Stream → Stream) → List Connection → ℕ → List Stream → List Stream
changed_at change [] place streams = streams
changed_at change (j ∷ js) place [] = []
changed_at change (j ∷ js) zero (s ∷ ss) = change j s ∷ ss
changed_at change (j ∷ js) (suc place) (s ∷ ss) = s ∷ changed_at change js place ss

-- the same at each of these places
abbrev pub changed_at_all : (Connection → Stream → Stream) → List Connection → List ℕ → List Stream → List Stream
changed_at_all change connections [] streams = streams
changed_at_all change connections (place ∷ places) streams = changed_at_all change connections places (changed_at change connections place streams)
