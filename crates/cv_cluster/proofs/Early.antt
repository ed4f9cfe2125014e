-- Moments stay early, and those of all nodes the same: where no time goes on, and where it goes on to a near one.
use Rattle.std.proofs.Common.{◌≡◌, ℕ, ◌+◌, List, [], ◌∷◌, length, sym, ◌∙◌, ap, arith, length-append}
use Rattle.cv_protocol.specs.declared.event.Event.TheVariants as event
use Rattle.cv_node.specs.Journalled.{entry_of_row}
use Rattle.cv_station.specs.declared.station.Station.{Station}
use Rattle.cv_bounds.specs.Moments.{moment_of}
use Rattle.cv_mesh.specs.Moving.{Each, Grows}
use Rattle.cv_mesh.proofs.Listing.{each_back}
use Rattle.cv_settle.specs.Settling.{StaysAtMoment}
use Rattle.cv_settle.proofs.Timeless.{moment_append}
use Rattle.cv_cluster.specs.Holding.{AreEarly, AreTogether, IsNear}
use Rattle.cv_cluster.specs.Ticking.{StationTicks}

-- 1. No time goes on

pub early_on : (ss us : List Station) → Each Grows ss us → Each StaysAtMoment ss us → AreEarly ss → AreEarly us
early_on ss us grows stays early i u first at_first at =
    let f = each_back Grows ss us grows 0 first at_first in
    let s = each_back StaysAtMoment ss us stays i u at in
    let low = early i s.0 f.0 f.1 s.1 in
    let same = s.2.same 0 in
    let long = ap length f.2.appends ∙ length-append f.0.node.entries f.2.more in
    omega (arith, low, same, long)

pub together_on : (ss us : List Station) → Each StaysAtMoment ss us → AreTogether ss → AreTogether us
together_on ss us stays together i j u v at_u at_v =
    let s = each_back StaysAtMoment ss us stays i u at_u in
    let t = each_back StaysAtMoment ss us stays j v at_v in
    s.2.same 0 ∙ together i j s.0 t.0 s.1 t.1 ∙ sym (t.2.same 0)

-- 2. Time goes on at all stations

-- a station that ticked is at that moment, and has an entry more
ticked_moment : (t : ℕ) (s u : Station) → StationTicks t s u → moment_of 0 u.node.entries ≡ t
ticked_moment t s u ticks =
    ap (moment_of 0) ticks.appends ∙ moment_append 0 s.node.entries (entry_of_row s.node.state (event.Tick t) ∷ [])

ticked_length : (t : ℕ) (s u : Station) → StationTicks t s u → length u.node.entries ≡ length s.node.entries + 1
ticked_length t s u ticks =
    ap length ticks.appends ∙ length-append s.node.entries (entry_of_row s.node.state (event.Tick t) ∷ [])

-- all of them were near, and are at that moment
pub early_ticked : (t : ℕ) (ss us : List Station) → IsNear ss t → Each (StationTicks t) ss us → AreEarly us
early_ticked t ss us near ticks i u first at_first at =
    let s = each_back (StationTicks t) ss us ticks i u at in
    let f = each_back (StationTicks t) ss us ticks 0 first at_first in
    let moment = ticked_moment t s.0 u s.2 in
    let long = ticked_length t f.0 first f.2 in
    let low = near f.0 f.1 in
    omega (arith, moment, long, low)

pub together_ticked : (t : ℕ) (ss us : List Station) → Each (StationTicks t) ss us → AreTogether us
together_ticked t ss us ticks i j u v at_u at_v =
    let s = each_back (StationTicks t) ss us ticks i u at_u in
    let r = each_back (StationTicks t) ss us ticks j v at_v in
    ticked_moment t s.0 u s.2 ∙ sym (ticked_moment t r.0 v r.2)
