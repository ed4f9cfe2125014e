-- A worker's whole round.
use Rattle.std.proofs.Common.{◌≡◌, ℕ, ◌+◌, ◌≤◌, ◌^◌, Bool, true, List, length, subst, arith}
use Rattle.cv_station.specs.declared.station.Station.{Station}
use Rattle.cv_station.specs.Acts.{Act, Round, Runs}
use Rattle.cv_station.specs.Going.{Goes, GoesInRound}
use Rattle.cv_station.proofs.Goes.{goes_none}

-- a journal that is nearly full ends the round as it begins
pub round_refused : (s : Station) → GoesInRound s true s
round_refused s = record { goes = goes_none (length s.node.entries + 2048) true s; few = λ h. h }

pub round_made : (failed : Bool) (s u : Station) (start most : ℕ) → start ≡ length s.node.entries → most ≡ start + 2048 → start + 2048 ≤ 2 ^ 30 → Goes most s failed u → GoesInRound s failed u
round_made failed s u start most here sum few goes =
    let same : most ≡ length s.node.entries + 2048 = omega (arith, here, sum) in
    let g = subst (λ (n : ℕ). Goes n s failed u) same goes in
    record { goes = g; few = λ h. omega (arith, few, here, g.few (omega arith)) }

-- the same acts, where the counts of the round before stand
runs_from : (failed : Bool) (s u : Station) (acts : List Act) → Runs failed (record s { fired = 0 }) acts u → Runs failed s acts (record u { failed = failed })
runs_from failed s u acts r = record {
  are_acts = r.are_acts;
  inside = r.inside;
  whole = r.whole;
  frames = r.frames;
  does = r.does;
  as_many = r.as_many;
  peers = r.peers;
}

pub round_of : (failed : Bool) (s u : Station) → GoesInRound (record s { fired = 0 }) failed u → (acts : List Act) × Round s acts (record u { failed = failed })
round_of failed s u did = (
  did.goes.acts,
  record {
    works = runs_from failed s u did.goes.acts did.goes.runs;
    own = did.goes.own;
    counted = omega (arith, did.goes.counted);
  },
)

pub round_fired : (failed : Bool) (s u : Station) → GoesInRound (record s { fired = 0 }) failed u → u.fired ≤ s.quota
round_fired failed s u did = omega (arith, did.goes.within (omega arith), did.goes.quota)

pub round_steps : (failed : Bool) (s u : Station) → GoesInRound (record s { fired = 0 }) failed u → length u.node.entries ≤ length s.node.entries + 2048
round_steps failed s u did = did.goes.few (omega arith)
