-- Checks, one after another.
use Rattle.std.proofs.Common.{inl, inr, List, [], ◌∷◌, ◌++◌, Result, Ok, Err}
use Rattle.cv_expand.specs.declared.flat.Parts.{Parts}
use Rattle.cv_graph.specs.declared.fault.GraphFault.{GraphFault}
use Rattle.cv_graph.specs.declared.fault.GraphFault.TheVariants as faults
use Rattle.cv_graph.specs.Checks.{Check, AllHold, IsFirst}
use Rattle.cv_graph.specs.Faults.{Faulty, Judges}

pub faulty_by : (parts : Parts) (cs ds : List Check) (e : GraphFault) → ((f : GraphFault) → IsFirst parts cs f → IsFirst parts ds f) → Faulty parts cs e → Faulty parts ds e
faulty_by parts cs ds faults.OutOfMemory by h = tt
faulty_by parts cs ds (faults.NoKind at) by h = by _ h
faulty_by parts cs ds (faults.Fraction at) by h = by _ h
faulty_by parts cs ds (faults.BadArg at) by h = by _ h
faulty_by parts cs ds (faults.NoPort at) by h = by _ h
faulty_by parts cs ds (faults.FedTwice at) by h = by _ h
faulty_by parts cs ds (faults.Unfed at) by h = by _ h
faulty_by parts cs ds (faults.BatchOverQueue at) by h = by _ h

-- a fault that is the first is told
pub faulty_first : (parts : Parts) (cs : List Check) (e : GraphFault) → IsFirst parts cs e → Faulty parts cs e
faulty_first parts cs faults.OutOfMemory h = tt
faulty_first parts cs (faults.NoKind at) h = h
faulty_first parts cs (faults.Fraction at) h = h
faulty_first parts cs (faults.BadArg at) h = h
faulty_first parts cs (faults.NoPort at) h = h
faulty_first parts cs (faults.FedTwice at) h = h
faulty_first parts cs (faults.Unfed at) h = h
faulty_first parts cs (faults.BatchOverQueue at) h = h

-- the first of some is the first of more
first_in_front : (parts : Parts) (cs ds : List Check) (e : GraphFault) → IsFirst parts cs e → IsFirst parts (cs ++ ds) e
first_in_front parts [] ds e h = absurd h
first_in_front parts (c ∷ cs) ds e (inl h) = inl h
first_in_front parts (c ∷ cs) ds e (inr h) = inr (h.0, first_in_front parts cs ds e h.1)

first_behind : (parts : Parts) (cs ds : List Check) (e : GraphFault) → AllHold parts cs → IsFirst parts ds e → IsFirst parts (cs ++ ds) e
first_behind parts [] ds e all h = h
first_behind parts (c ∷ cs) ds e all h = inr (all.0, first_behind parts cs ds e all.1 h)

pub all_hold : (parts : Parts) (cs ds : List Check) → AllHold parts cs → AllHold parts ds → AllHold parts (cs ++ ds)
all_hold parts [] ds h g = g
all_hold parts (c ∷ cs) ds h g = (h.0, all_hold parts cs ds h.1 g)

pub faulty_front : (parts : Parts) (cs ds : List Check) (e : GraphFault) → Faulty parts cs e → Faulty parts (cs ++ ds) e
faulty_front parts cs ds e h = faulty_by parts cs (cs ++ ds) e (first_in_front parts cs ds) h

pub faulty_behind : (parts : Parts) (cs ds : List Check) (e : GraphFault) → AllHold parts cs → Faulty parts ds e → Faulty parts (cs ++ ds) e
faulty_behind parts cs ds e all h = faulty_by parts ds (cs ++ ds) e (λ f g. first_behind parts cs ds f all g) h

-- what is left decides
pub record Left (parts : Parts) (all rest : List Check) : Type 0 where
  pub holds : AllHold parts rest → AllHold parts all
  pub fails : (e : GraphFault) → IsFirst parts rest e → IsFirst parts all e

pub left_all : (parts : Parts) (all : List Check) → Left parts all all
left_all parts all = record { holds = λ h. h; fails = λ e h. h }

pub left_next : (parts : Parts) (all cs rest : List Check) → Left parts all (cs ++ rest) → AllHold parts cs → Left parts all rest
left_next parts all cs rest l h = record { holds = λ g. l.holds (all_hold parts cs rest h g); fails = λ e g. l.fails e (first_behind parts cs rest e h g) }

pub left_stop : (parts : Parts) (all cs rest : List Check) (e : GraphFault) → Left parts all (cs ++ rest) → Faulty parts cs e → Faulty parts all e
left_stop parts all cs rest e l h = faulty_by parts (cs ++ rest) all e l.fails (faulty_front parts cs rest e h)

pub left_end : (parts : Parts) (all : List Check) → Left parts all [] → AllHold parts all
left_end parts all l = l.holds tt

-- an answer to what stands behind checks that hold
pub judges_behind : {X : Type 0} (parts : Parts) (cs ds : List Check) (r : Result X GraphFault) → AllHold parts cs → Judges parts ds r → Judges parts (cs ++ ds) r
judges_behind parts cs ds (Ok x) all h = all_hold parts cs ds all h
judges_behind parts cs ds (Err e) all h = faulty_behind parts cs ds e all h
