-- Tables of places and ports by numbers.
use Rattle.std.specs.Prelude.{◌≡◌, ◌↔◌, ℕ, ◌≤◌, suc, List, [], ◌∷◌, ◌++◌, map, length, slice_get, Option, Some, None, option_map, option_and_then, Result, Ok, Err}
use Rattle.std.specs.List.{AllByRecursion}
use Rattle.std.specs.BTreeMap.{BTreeMap, get}
use Rattle.cv_token.specs.declared.pairs.Pair.{Pair}
use Rattle.cv_expand.specs.declared.flat.Feed.{Feed}
use Rattle.cv_expand.specs.declared.flat.Parts.{Parts}
use Rattle.cv_expand.specs.declared.path.Step.{Step}
use Rattle.cv_expand.specs.Lookup.{lookup}
use Rattle.cv_expand.specs.Paths.{path_text, IsPath}
use Rattle.cv_graph.specs.declared.fault.GraphFault.{GraphFault}
use Rattle.cv_graph.specs.declared.fault.GraphFault.TheVariants as faults
use Rattle.cv_graph.specs.declared.placing.Head.{Head}
use Rattle.cv_graph.specs.declared.placing.Places.{Places}
use Rattle.cv_graph.specs.declared.port.Port.{Port}
use Rattle.cv_graph.specs.declared.port.Side.{Side}
use Rattle.cv_graph.specs.declared.port.Side.TheVariants as side
use Rattle.cv_graph.specs.declared.port.Wire.{Wire}
use Rattle.cv_graph.specs.contracts.port.PortOrd.TheImpl as port_ord
use Rattle.cv_graph.specs.Ports.{End, void, port, Place, names_on, places, source_of, target_of}

-- ---- names

-- texts with their numbers, from a first number on
abbrev pub numbered : ℕ → List (List ℕ) → List (Pair ℕ)
numbered i [] = []
numbered i (n ∷ names) = record { key = n; value = i } ∷ numbered (suc i) names

-- the number of the first of these names
abbrev pub number_of : List (List ℕ) → List ℕ → Option ℕ
number_of names name = lookup (numbered 0 names) name

-- ---- places

abbrev pub head_of : Place → Head
head_of p = record { inports = numbered 0 p.inports; outports = numbered 0 p.outports }

abbrev pub numbers_on : Side → Head → List (Pair ℕ)
numbers_on side.In h = h.inports
numbers_on side.Out h = h.outports

-- the table has these places in this order
pub record AreTabled (ps : List Place) (t : Places) : Type 0 where
  pub paths : t.by_path ≡ numbered 0 (map (λ p. path_text p.path) ps)
  pub heads : t.heads ≡ map head_of ps
  pub named : AllByRecursion (λ p. IsPath p.path) ps

abbrev pub port_in : ℕ → Side → List ℕ → Head → Option Port
port_in place s name h = option_map (λ number. record { place = place; side = s; number = number }) (lookup (numbers_on s h) name)

abbrev pub port_at : Places → Side → List ℕ → ℕ → Option Port
port_at t s name place = option_and_then (port_in place s name) (slice_get t.heads place)

-- the port that the table has for a path, a side and a name
abbrev pub port_found : Places → List Step → Side → List ℕ → Option Port
port_found t path s name = option_and_then (port_at t s name) (lookup t.by_path (path_text path))

-- the port, by numbers, is the one of that path, side and name
pub record IsPort (ps : List Place) (path : List Step) (s : Side) (name : List ℕ) (p : Port) : Type 0 where
  pub place : Place
  pub there : slice_get ps p.place ≡ Some place
  pub path_is : place.path ≡ path
  pub side_is : p.side ≡ s
  pub number_is : number_of (names_on s place) name ≡ Some p.number

-- the port at a place from the first one on, or NoPort where there is none
abbrev pub PortTold : List Place → List Step → Side → List ℕ → ℕ → ℕ → Result Port GraphFault → Type 0
PortTold ps path s name first at (Ok p) = IsPort ps path s name p × (first ≤ p.place)
PortTold ps path s name first at (Err faults.OutOfMemory) = Unit {0}
PortTold ps path s name first at (Err fault) = (fault ≡ faults.NoPort at) × ((p : Port) → IsPort ps path s name p → first ≤ p.place → ⊥)

-- ---- joins

abbrev pub IsEnd : List Place → Option Port → End → Type 0
IsEnd ps None void = Unit {0}
IsEnd ps None (port path s name) = ⊥
IsEnd ps (Some p) void = ⊥
IsEnd ps (Some p) (port path s name) = IsPort ps path s name p

abbrev pub IsAim : List Place → Option Port → Option End → Type 0
IsAim ps None None = Unit {0}
IsAim ps None (Some e) = ⊥
IsAim ps (Some p) None = ⊥
IsAim ps (Some p) (Some e) = IsEnd ps (Some p) e

-- a port on that side stands at a place from the first one on
abbrev pub IsBehind : ℕ → Side → Option Port → Type 0
IsBehind first s o = (p : Port) → o ≡ Some p → p.side ≡ s → first ≤ p.place

-- the join by numbers: its ends are there, and own ports are no actor's
pub record IsWire (parts : Parts) (f : Feed) (w : Wire) : Type 0 where
  pub source : IsEnd (places parts) w.source (source_of f)
  pub target : IsAim (places parts) w.target (target_of f)
  pub own_source : IsBehind (length parts.actors) side.In w.source
  pub own_target : IsBehind (length parts.actors) side.Out w.target

abbrev pub AreWires : Parts → List Feed → List Wire → Type 0
AreWires parts [] [] = Unit {0}
AreWires parts (f ∷ feeds) (w ∷ wires) = IsWire parts f w × AreWires parts feeds wires
AreWires parts _ _ = ⊥

-- the number of the join to a port
abbrev pub feeder : BTreeMap Port ℕ → Port → Option ℕ
feeder m p = get ((port_ord.ghosts).cmp) m p

-- the map has the number of each join under its target
abbrev pub Indexed : List Wire → BTreeMap Port ℕ → Type 0
Indexed ws m = (p : Port) (n : ℕ) → (feeder m p ≡ Some n) ↔ ((w : Wire) × (slice_get ws n ≡ Some w) × (w.target ≡ Some p))

-- one of these joins goes to that port
abbrev pub GoesTo : List Wire → Port → Type 0
GoesTo ws p = (n : ℕ) × (w : Wire) × (slice_get ws n ≡ Some w) × (w.target ≡ Some p)

-- the map with one more join behind these, or FedTwice where one of them has its target
abbrev pub Indexes : List Wire → Wire → ℕ → Result (BTreeMap Port ℕ) GraphFault → Type 0
Indexes ws w at (Ok m) = Indexed (ws ++ w ∷ []) m × ((p : Port) → w.target ≡ Some p → GoesTo ws p → ⊥)
Indexes ws w at (Err faults.OutOfMemory) = Unit {0}
Indexes ws w at (Err fault) = (fault ≡ faults.FedTwice at) × ((p : Port) × (w.target ≡ Some p) × GoesTo ws p)
