-- The ends of a connection that a search finds stand where it says.
use Rattle.std.proofs.Common.{◌≡◌, ℕ, suc, ◌+◌, Bool, true, false, List, [], ◌∷◌, Option, Some, None, refl, ap, subst, ◌∙◌, arith, if◌then◌else◌}
use Rattle.std.specs.Prelude.{slice_get}
use Rattle.std.proofs.lemmas.Option.{same_Some, none-some as none_some}
use Rattle.cv_token.specs.declared.identifiers.ConnId.{ConnId}
use Rattle.cv_table.specs.Order.{same_conn}
use Rattle.cv_queue.specs.declared.reader.Reader.{Reader}
use Rattle.cv_queue.specs.Ports.{OutView}
use Rattle.cv_protocol.specs.declared.state.Inlet.{Inlet}
use Rattle.cv_protocol.specs.Rows.{Spot, Seat, reader_of, spot_or, spot_of, seat_of}

-- an inport that the connection feeds
pub record SeatStands (conn : ConnId) (start : ℕ) (ins : List (Option Inlet)) (y : Seat) : Type 0 where
  pub place : ℕ
  pub placed : y.inp ≡ start + place
  pub stands : slice_get ins place ≡ Some (Some y.inlet)
  pub is_it : same_conn y.inlet.conn conn ≡ true

seat_later : (conn : ConnId) (start : ℕ) (i : Option Inlet) (ins : List (Option Inlet)) (y : Seat) → SeatStands conn (suc start) ins y → SeatStands conn start (i ∷ ins) y
seat_later conn start i ins y s = record {
  place = suc s.place;
  placed = omega (arith, s.placed);
  stands = s.stands;
  is_it = s.is_it;
}

seat_here : (conn : ConnId) (start : ℕ) (i : Inlet) (ins : List (Option Inlet)) (y : Seat) (b : Bool) → same_conn i.conn conn ≡ b → (if b then Some (record { inp = start; inlet = i }) else seat_of conn (suc start) ins) ≡ Some y → ((z : Seat) → seat_of conn (suc start) ins ≡ Some z → SeatStands conn (suc start) ins z) → SeatStands conn start (Some i ∷ ins) y
seat_here conn start i ins y true is e later =
    let q : record { inp = start; inlet = i } ≡ y = same_Some _ y e in
    subst (SeatStands conn start (Some i ∷ ins)) q (record { place = 0; placed = omega arith; stands = refl; is_it = is })
seat_here conn start i ins y false is e later = seat_later conn start (Some i) ins y (later y e)

pub seat_stands : (conn : ConnId) (start : ℕ) (ins : List (Option Inlet)) (y : Seat) → seat_of conn start ins ≡ Some y → SeatStands conn start ins y
seat_stands conn start [] y e = absurd (none_some y e)
seat_stands conn start (None ∷ ins) y e = seat_later conn start None ins y (seat_stands conn (suc start) ins y e)
seat_stands conn start (Some i ∷ ins) y e =
    seat_here conn start i ins y (same_conn i.conn conn) refl e (λ z f. seat_stands conn (suc start) ins z f)

-- a reader of the connection
pub record ReaderStands (conn : ConnId) (start : ℕ) (readers : List Reader) (x : ℕ × Reader) : Type 0 where
  pub place : ℕ
  pub placed : x.0 ≡ start + place
  pub stands : slice_get readers place ≡ Some x.1
  pub is_it : same_conn x.1.conn conn ≡ true

reader_here : (conn : ConnId) (start : ℕ) (r : Reader) (rs : List Reader) (x : ℕ × Reader) (b : Bool) → same_conn r.conn conn ≡ b → (if b then Some (start, r) else reader_of conn (suc start) rs) ≡ Some x → ((z : ℕ × Reader) → reader_of conn (suc start) rs ≡ Some z → ReaderStands conn (suc start) rs z) → ReaderStands conn start (r ∷ rs) x
reader_here conn start r rs x true is e later =
    subst (ReaderStands conn start (r ∷ rs)) (same_Some (start, r) x e) (record { place = 0; placed = omega arith; stands = refl; is_it = is })
reader_here conn start r rs x false is e later =
    let s = later x e in
    record { place = suc s.place; placed = omega (arith, s.placed); stands = s.stands; is_it = s.is_it }

reader_stands : (conn : ConnId) (start : ℕ) (rs : List Reader) (x : ℕ × Reader) → reader_of conn start rs ≡ Some x → ReaderStands conn start rs x
reader_stands conn start [] x e = absurd (none_some x e)
reader_stands conn start (r ∷ rs) x e =
    reader_here conn start r rs x (same_conn r.conn conn) refl e (λ z f. reader_stands conn (suc start) rs z f)

pub record SpotStands (conn : ConnId) (start : ℕ) (outs : List OutView) (z : Spot) : Type 0 where
  pub place : ℕ
  pub placed : z.out ≡ start + place
  pub stands : slice_get outs place ≡ Some z.port
  pub reads : slice_get z.port.readers z.number ≡ Some z.reader
  pub is_it : same_conn z.reader.conn conn ≡ true

spot_here : (conn : ConnId) (start : ℕ) (o : OutView) (outs : List OutView) (z : Spot) (x : Option (ℕ × Reader)) → reader_of conn 0 o.readers ≡ x → spot_or start o x (spot_of conn (suc start) outs) ≡ Some z → ((y : Spot) → spot_of conn (suc start) outs ≡ Some y → SpotStands conn (suc start) outs y) → SpotStands conn start (o ∷ outs) z
spot_here conn start o outs z None g e later =
    let s = later z e in
    record { place = suc s.place; placed = omega (arith, s.placed); stands = s.stands; reads = s.reads; is_it = s.is_it }
spot_here conn start o outs z (Some x) g e later =
    let s = reader_stands conn 0 o.readers x g in
    let n : x.0 ≡ s.place = omega (arith, s.placed) in
    let q : record { out = start; number = x.0; reader = x.1; port = o } ≡ z = same_Some _ z e in
    subst (SpotStands conn start (o ∷ outs)) q (record {
      place = 0;
      placed = omega arith;
      stands = refl;
      reads = ap (slice_get o.readers) n ∙ s.stands;
      is_it = s.is_it;
    })

pub spot_stands : (conn : ConnId) (start : ℕ) (outs : List OutView) (z : Spot) → spot_of conn start outs ≡ Some z → SpotStands conn start outs z
spot_stands conn start [] z e = absurd (none_some z e)
spot_stands conn start (o ∷ outs) z e =
    spot_here conn start o outs z (reader_of conn 0 o.readers) refl e (λ y f. spot_stands conn (suc start) outs y f)
