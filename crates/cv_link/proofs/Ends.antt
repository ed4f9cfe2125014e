-- The ends of one ring, over several calls.
use Rattle.std.proofs.Common.{refl, sym, ◌∙◌}
use Rattle.cv_link.specs.declared.ring.Rx.{Rx}
use Rattle.cv_link.specs.declared.ring.Tx.{Tx}
use Rattle.cv_link.specs.Ring.{EndsStay, RxStays, SameRx, SameTx, TxStays}

pub ends_stay : EndsStay
ends_stay tx tx' rx rx' ends t r =
    (r.ring.0.0 ∙ ends.0 ∙ sym t.ring.0.0, r.ring.0.1 ∙ ends.1 ∙ sym t.ring.0.1, r.ring.0.2 ∙ ends.2 ∙ sym t.ring.0.2, r.ring.0.3 ∙ ends.3 ∙ sym t.ring.0.3)

pub tx_stays : TxStays
tx_stays a b c s t =
    record { ring = ((t.ring.0.0 ∙ s.ring.0.0, t.ring.0.1 ∙ s.ring.0.1, t.ring.0.2 ∙ s.ring.0.2, t.ring.0.3 ∙ s.ring.0.3), t.ring.1 ∙ s.ring.1) }

pub rx_stays : RxStays
rx_stays a b c s t =
    record { ring = ((t.ring.0.0 ∙ s.ring.0.0, t.ring.0.1 ∙ s.ring.0.1, t.ring.0.2 ∙ s.ring.0.2, t.ring.0.3 ∙ s.ring.0.3), t.ring.1 ∙ s.ring.1) }

-- an end is the same end as itself
pub tx_self : (t : Tx) → SameTx t t
tx_self t = record { ring = ((refl, refl, refl, refl), refl) }

pub rx_self : (r : Rx) → SameRx r r
rx_self r = record { ring = ((refl, refl, refl, refl), refl) }
