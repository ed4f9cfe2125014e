-- What feeds each inport, and the connections that follow.
use Rattle.std.specs.Prelude.{◌≡◌, ◌≢◌, ℕ, suc, nat_lt, if◌then◌else◌, List, [], ◌∷◌, ◌++◌, slice_get, Option, Some, None, option_and_then, Result, Ok, Err}
use Rattle.std.specs.Global.{Vec}
use Rattle.std.specs.BTreeMap.{BTreeMap}
use Rattle.cv_expand.specs.declared.flat.Parts.{Parts}
use Rattle.cv_kinds.specs.declared.network.Connection.{Connection}
use Rattle.cv_graph.specs.declared.fault.GraphFault.{GraphFault}
use Rattle.cv_graph.specs.declared.fault.GraphFault.TheVariants as faults
use Rattle.cv_graph.specs.declared.port.Port.{Port}
use Rattle.cv_graph.specs.declared.port.Side.TheVariants as side
use Rattle.cv_graph.specs.declared.port.Wire.{Wire}
use Rattle.cv_graph.specs.declared.ways.Supply.{Supply}
use Rattle.cv_graph.specs.declared.ways.Supply.TheVariants as supplies
use Rattle.cv_graph.specs.declared.ways.Way.{Way}
use Rattle.cv_graph.specs.declared.ways.Way.TheVariants as ways
use Rattle.cv_graph.specs.Ports.{End, void, Place, Reaches, IsActorPort, IsFed}
use Rattle.cv_graph.specs.Tables.{feeder}

-- ---- ways

abbrev pub back_to : Option ℕ → Way
back_to None = ways.Ended None
back_to (Some n) = ways.Back n

abbrev pub way_from : ℕ → BTreeMap Port ℕ → Option Port → Way
way_from actors m None = ways.Ended (Some supplies.Void)
way_from actors m (Some p) = if nat_lt p.place actors then ways.Ended (Some (supplies.Outport p.place p.number)) else back_to (feeder m p)

-- a join from `voidport` or an actor ends the way; another goes on from the join to its source
abbrev pub way_of : ℕ → BTreeMap Port ℕ → Wire → Way
way_of actors m w = way_from actors m w.source

-- ---- what feeds an inport

abbrev pub ended : Way → Option Supply
ended (ways.Ended s) = s
ended (ways.Back n) = None

abbrev pub supply_in : List Way → ℕ → Option Supply
supply_in ws n = option_and_then ended (slice_get ws n)

-- what feeds the inport of that number of an actor
abbrev pub supplied : BTreeMap Port ℕ → List Way → ℕ → ℕ → Option Supply
supplied m ws actor number = option_and_then (supply_in ws) (feeder m (record { place = actor; side = side.In; number = number }))

abbrev pub Feeds : Parts → End → Option Supply → Type 0
Feeds parts e None = IsFed parts e → ⊥
Feeds parts e (Some supplies.Void) = Reaches parts.feeds void e
Feeds parts e (Some (supplies.Outport actor number)) = (s : End) × IsActorPort parts side.Out actor number s × Reaches parts.feeds s e

-- each inport has one supply, or is not fed
pub record AreSupplied (parts : Parts) (supply : ℕ → ℕ → Option Supply) : Type 0 where
  pub feeds : (actor number : ℕ) (e : End) → IsActorPort parts side.In actor number e → Feeds parts e (supply actor number)
  pub one : (actor number from out : ℕ) (e s : End) → IsActorPort parts side.In actor number e → IsActorPort parts side.Out from out s → Reaches parts.feeds s e → supply actor number ≡ Some (supplies.Outport from out)

-- ---- connections

abbrev pub link : ℕ → ℕ → Option Supply → List Connection
link to inp None = []
link to inp (Some supplies.Void) = []
link to inp (Some (supplies.Outport from out)) = record { from = from; out = out; to = to; inp = inp } ∷ []

-- the connections with that of one more inport behind them, or Unfed where it has no supply
abbrev pub Linked : List Connection → ℕ → ℕ → Option Supply → ℕ → Result (Vec Connection) GraphFault → Type 0
Linked connections to inp supply at (Ok all) = (supply ≢ None) × (all.items ≡ connections ++ link to inp supply)
Linked connections to inp supply at (Err faults.OutOfMemory) = Unit {0}
Linked connections to inp supply at (Err fault) = (fault ≡ faults.Unfed at) × (supply ≡ None)

-- the connections of an actor's inports, from one of them on
abbrev pub links_at : (ℕ → ℕ → Option Supply) → ℕ → ℕ → List (List ℕ) → List Connection
links_at supply to inp [] = []
links_at supply to inp (name ∷ names) = link to inp (supply to inp) ++ links_at supply to (suc inp) names

-- those of these actors, from one of them on
abbrev pub links_from : (ℕ → ℕ → Option Supply) → ℕ → List Place → List Connection
links_from supply to [] = []
links_from supply to (p ∷ ps) = links_at supply to 0 p.inports ++ links_from supply (suc to) ps
