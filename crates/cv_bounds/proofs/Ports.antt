-- What the calls of a port do to its numbers.
use Rattle.std.proofs.Common.{◌≡◌, ℕ, zero, suc, ◌+◌, ◌≤◌, Bool, true, false, List, [], ◌∷◌, length, drop, Option, Some, None, refl, subst, ◌∙◌, arith, length-append, length-drop, if◌then◌else◌}
use Rattle.std.specs.Prelude.{nat_lt, nat_eq, slice_get, slice_set, unwrap_or}
use Rattle.std.proofs.lemmas.Option.{same_Some, none-some as none_some}
use Rattle.cv_token.specs.declared.token.Token.{Token}
use Rattle.cv_token.specs.declared.identifiers.ConnId.{ConnId}
use Rattle.cv_table.specs.Order.{same_conn}
use Rattle.cv_queue.specs.declared.reader.Reader.{Reader}
use Rattle.cv_queue.specs.declared.in_port.Offered.{Offered}
use Rattle.cv_queue.specs.declared.in_port.Offered.TheVariants as offered
use Rattle.cv_queue.specs.Ports.{OutView, InView, received, acknowledged, acknowledges, after_ack, rewound, after_rewind, marked_sent, after_sent, after_offer, with_offered, answer_to, after_commit}
use Rattle.cv_endpoint.specs.Ends.{acked, after_nack, moved_in, moved_out, to_move, in_after_move, out_after_move}
use Rattle.cv_protocol.specs.declared.state.Inlet.{Inlet}
use Rattle.cv_protocol.specs.Actors.{LiveState}
use Rattle.cv_protocol.specs.Poll.{first_given, held_in, with_given, with_token, without_needed}
use Rattle.cv_protocol.specs.Rows.{Seat, Spot, inlet_at, reader_of, seat_of, spot_of, spot_or}
use Rattle.cv_bounds.specs.Few.{InsAreFew, OutsAreFew}

-- 1. Outports

acknowledged_write : (o : OutView) (k upto : ℕ) (r : Option Reader) (b : Bool) → (acknowledged o k upto r b).write ≡ o.write
acknowledged_write o k upto None true = refl
acknowledged_write o k upto None false = refl
acknowledged_write o k upto (Some r) true = refl
acknowledged_write o k upto (Some r) false = refl

pub ack_write : (o : OutView) (k upto : ℕ) → (after_ack o k upto).write ≡ o.write
ack_write o k upto =
    acknowledged_write o k upto (slice_get o.readers k) (acknowledges o k upto)

rewound_write : (o : OutView) (k : ℕ) (r : Option Reader) → (rewound o k r).write ≡ o.write
rewound_write o k None = refl
rewound_write o k (Some r) = refl

pub rewind_write : (o : OutView) (k : ℕ) → (after_rewind o k).write ≡ o.write
rewind_write o k = rewound_write o k (slice_get o.readers k)

marked_write : (o : OutView) (k : ℕ) (r : Option Reader) → (marked_sent o k r).write ≡ o.write
marked_write o k None = refl
marked_write o k (Some r) = refl

pub sent_write : (o : OutView) (k : ℕ) → (after_sent o k).write ≡ o.write
sent_write o k = marked_write o k (slice_get o.readers k)

if_write : (b : Bool) (x y : OutView) (n : ℕ) → x.write ≡ n → y.write ≡ n → (if b then x else y).write ≡ n
if_write true x y n h g = h
if_write false x y n h g = g

pub nack_write : (o : OutView) (k upto : ℕ) → (after_nack o k upto).write ≡ o.write
nack_write o k upto =
    if_write (nat_eq upto (acked (after_ack o k upto) k)) (after_rewind (after_ack o k upto) k) (after_ack o k upto) o.write (rewind_write (after_ack o k upto) k ∙ ack_write o k upto) (ack_write o k upto)

moved_write : (o : OutView) (k : ℕ) (t : Option Token) → (moved_out o k t).write ≡ o.write
moved_write o k None = refl
moved_write o k (Some t) = ack_write o k (acked o k + 1)

pub move_write : (o : OutView) (k : ℕ) (i : InView) → (out_after_move o k i).write ≡ o.write
move_write o k i = moved_write o k (to_move o k i)

-- 2. Inports

with_offered_received : (i : InView) (t : Token) (answer : Offered) → received (with_offered i t answer) ≤ suc (received i)
with_offered_received i t offered.Taken = omega (arith, length-append i.held (t ∷ []))
with_offered_received i t offered.Old = omega arith
with_offered_received i t offered.Gap = omega arith
with_offered_received i t offered.Full = omega arith

pub offer_received : (i : InView) (n : ℕ) (t : Token) → received (after_offer i n t) ≤ suc (received i)
offer_received i n t = with_offered_received i t (answer_to i n)

if_received : (b : Bool) (x y : InView) (n : ℕ) → received x ≤ n → received y ≤ n → received (if b then x else y) ≤ n
if_received true x y n h g = h
if_received false x y n h g = g

moved_received : (i : InView) (n : ℕ) (t : Option Token) → received (moved_in i n t) ≤ suc (received i)
moved_received i n None = omega arith
moved_received i n (Some t) =
    if_received (nat_lt n (received i)) i (after_offer i n t) (suc (received i)) (omega arith) (offer_received i n t)

pub move_received : (o : OutView) (k : ℕ) (i : InView) → received (in_after_move o k i) ≤ suc (received i)
move_received o k i = moved_received i (acked o k) (to_move o k i)

pub commit_received : (i : InView) (n : ℕ) → n ≤ length i.held → received (after_commit i n) ≡ received i
commit_received i n low = omega (arith, length-drop n i.held, low)

-- 3. The ports of an actor

pub ins_weaken : (n m : ℕ) (ins : List (Option Inlet)) → n ≤ m → InsAreFew n ins → InsAreFew m ins
ins_weaken n m [] low h = tt
ins_weaken n m (None ∷ ins) low h = ins_weaken n m ins low h
ins_weaken n m (Some i ∷ ins) low h = (omega (arith, low, h.0), ins_weaken n m ins low h.1)

pub outs_weaken : (n m : ℕ) (outs : List OutView) → n ≤ m → OutsAreFew n outs → OutsAreFew m outs
outs_weaken n m [] low h = tt
outs_weaken n m (o ∷ outs) low h = (omega (arith, low, h.0), outs_weaken n m outs low h.1)

-- one inport becomes another one
pub ins_set : (n : ℕ) (ins : List (Option Inlet)) (k : ℕ) (i : Inlet) → InsAreFew n ins → received i.port ≤ n → InsAreFew n (slice_set ins k (Some i))
ins_set n [] k i h low = tt
ins_set n (None ∷ ins) zero i h low = (low, h)
ins_set n (Some j ∷ ins) zero i h low = (low, h.1)
ins_set n (None ∷ ins) (suc k) i h low = ins_set n ins k i h low
ins_set n (Some j ∷ ins) (suc k) i h low = (h.0, ins_set n ins k i h.1 low)

pub outs_set : (n : ℕ) (outs : List OutView) (k : ℕ) (o : OutView) → OutsAreFew n outs → o.write ≤ n → OutsAreFew n (slice_set outs k o)
outs_set n [] k o h low = tt
outs_set n (x ∷ outs) zero o h low = (low, h.1)
outs_set n (x ∷ outs) (suc k) o h low = (h.0, outs_set n outs k o h.1 low)

-- an inport that is found
ins_at : (n : ℕ) (ins : List (Option Inlet)) (k : ℕ) (i : Inlet) → InsAreFew n ins → unwrap_or (slice_get ins k) None ≡ Some i → received i.port ≤ n
ins_at n [] k i h is = absurd (none_some i is)
ins_at n (None ∷ ins) zero i h is = absurd (none_some i is)
ins_at n (Some j ∷ ins) zero i h is =
    subst (λ (x : Inlet). received x.port ≤ n) (same_Some j i is) h.0
ins_at n (None ∷ ins) (suc k) i h is = ins_at n ins k i h is
ins_at n (Some j ∷ ins) (suc k) i h is = ins_at n ins k i h.1 is

pub inlet_few : (n : ℕ) (l : LiveState) (k : ℕ) (i : Inlet) → InsAreFew n l.actor.ins → inlet_at l k ≡ Some i → received i.port ≤ n
inlet_few n l k i h is = ins_at n l.actor.ins k i h is

seat_if : (n : ℕ) (b : Bool) (inp : ℕ) (i : Inlet) (later : Option Seat) (y : Seat) → received i.port ≤ n → (later ≡ Some y → received y.inlet.port ≤ n) → (if b then Some (record { inp = inp; inlet = i }) else later) ≡ Some y → received y.inlet.port ≤ n
seat_if n true inp i later y here there is =
    subst (λ (x : Seat). received x.inlet.port ≤ n) (same_Some (record { inp = inp; inlet = i }) y is) here
seat_if n false inp i later y here there is = there is

pub seat_few : (n : ℕ) (conn : ConnId) (inp : ℕ) (ins : List (Option Inlet)) (y : Seat) → InsAreFew n ins → seat_of conn inp ins ≡ Some y → received y.inlet.port ≤ n
seat_few n conn inp [] y h is = absurd (none_some y is)
seat_few n conn inp (None ∷ ins) y h is = seat_few n conn (suc inp) ins y h is
seat_few n conn inp (Some i ∷ ins) y h is =
    seat_if n (same_conn i.conn conn) inp i (seat_of conn (suc inp) ins) y h.0 (seat_few n conn (suc inp) ins y h.1) is

spot_found : (n out : ℕ) (o : OutView) (found : Option (ℕ × Reader)) (later : Option Spot) (x : Spot) → o.write ≤ n → (later ≡ Some x → x.port.write ≤ n) → spot_or out o found later ≡ Some x → x.port.write ≤ n
spot_found n out o None later x here there is = there is
spot_found n out o (Some found) later x here there is =
    subst (λ (y : Spot). y.port.write ≤ n) (same_Some (record { out = out; number = found.0; reader = found.1; port = o }) x is) here

pub spot_few : (n : ℕ) (conn : ConnId) (out : ℕ) (outs : List OutView) (x : Spot) → OutsAreFew n outs → spot_of conn out outs ≡ Some x → x.port.write ≤ n
spot_few n conn out [] x h is = absurd (none_some x is)
spot_few n conn out (o ∷ outs) x h is =
    spot_found n out o (reader_of conn 0 o.readers) (spot_of conn (suc out) outs) x h.0 (spot_few n conn (suc out) outs x h.1) is

-- 4. A firing

with_token_write : (o : OutView) (given : Option Token) → (with_token o given).write ≤ suc o.write
with_token_write o None = omega arith
with_token_write o (Some t) = omega arith

pub given_few : (n : ℕ) (out : List (Option Token)) (outs : List OutView) → OutsAreFew n outs → OutsAreFew (suc n) (with_given out outs)
given_few n out [] h = tt
given_few n out (o ∷ outs) h =
    (omega (arith, with_token_write o (first_given out), h.0), given_few n (drop 1 out) outs h.1)

-- each inport holds as many tokens as are needed of it, for those from number `port` on
abbrev Enough : (ℕ → ℕ) → ℕ → List (Option Inlet) → Type 0
Enough needs port ins =
    (p : ℕ) (i : Option Inlet) → slice_get ins p ≡ Some i → needs (port + p) ≤ length (held_in i)

enough_tail : (needs : ℕ → ℕ) (port : ℕ) (x : Option Inlet) (ins : List (Option Inlet)) → Enough needs port (x ∷ ins) → Enough needs (suc port) ins
enough_tail needs port x ins h p i is =
    let k : port + suc p ≡ suc port + p = omega arith in
    subst (λ (q : ℕ). needs q ≤ length (held_in i)) k (h (suc p) i is)

pub needed_few : (n : ℕ) (needs : ℕ → ℕ) (port : ℕ) (ins : List (Option Inlet)) → Enough needs port ins → InsAreFew n ins → InsAreFew n (without_needed needs port ins)
needed_few n needs port [] h few = tt
needed_few n needs port (None ∷ ins) h few =
    needed_few n needs (suc port) ins (enough_tail needs port None ins h) few
needed_few n needs port (Some i ∷ ins) h few =
    let k : port + 0 ≡ port = omega arith in
    let low : needs port ≤ length i.port.held = subst (λ (q : ℕ). needs q ≤ length i.port.held) k (h 0 (Some i) refl) in
    (omega (arith, commit_received i.port (needs port) low, few.0), needed_few n needs (suc port) ins (enough_tail needs port (Some i) ins h) few.1)
