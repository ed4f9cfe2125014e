-- Ports as their callers see them: queues with positions, and what each call makes of them.
use Rattle.std.specs.Prelude.{◌≡◌, ℕ, ◌+◌, ◌-◌, ◌^◌, ◌<◌, ◌≤◌, min, max, Bool, true, false, ◌&&◌, List, [], ◌∷◌, ◌++◌, map, length, drop, refl, Option, Some, None, nat_lt, nat_le, nat_eq, if◌then◌else◌, slice_get, slice_set}
use Rattle.std.specs.Coded.{Coded, code_by, coded×, coded_ℕ, coded_list}
use Rattle.cv_token.specs.declared.token.Token.{Token}
use Rattle.cv_token.specs.contracts.token.Token as token
use Rattle.cv_queue.specs.declared.reader.Reader.{Reader}
use Rattle.cv_queue.specs.declared.reader.Subscription.{Subscription}
use Rattle.cv_queue.specs.contracts.reader.Reader as reader
use Rattle.cv_queue.specs.declared.in_port.Offered.{Offered}
use Rattle.cv_queue.specs.declared.in_port.Offered.TheVariants as answers

-- An outport. `held` are the tokens that some reader has not acknowledged yet, the oldest first,
-- and `write` counts the tokens that were ever written. Tokens are numbered from 0.
pub record OutView : Type 0 where
  pub held : List Token
  pub write : ℕ
  pub cap : ℕ
  pub readers : List Reader

-- An inport. `held` are the tokens that came and were not taken yet, the oldest first, `taken` counts
-- those that were taken, and the first `tentative` held ones are read tentatively.
pub record InView : Type 0 where
  pub held : List Token
  pub taken : ℕ
  pub tentative : ℕ
  pub cap : ℕ

abbrev pub out_code : Coded OutView
out_code =
    code_by (List Token × (ℕ × (ℕ × List Reader))) (coded× (coded_list token.the_row.coded) (coded× coded_ℕ (coded× coded_ℕ (coded_list reader.the_row.coded)))) (λ o. (o.held, (o.write, (o.cap, o.readers)))) (λ p. record { held = p.0; write = p.1.0; cap = p.1.1.0; readers = p.1.1.1 }) (λ _. refl)

abbrev pub in_code : Coded InView
in_code =
    code_by (List Token × (ℕ × (ℕ × ℕ))) (coded× (coded_list token.the_row.coded) (coded× coded_ℕ (coded× coded_ℕ coded_ℕ))) (λ i. (i.held, (i.taken, (i.tentative, i.cap)))) (λ p. record { held = p.0; taken = p.1.0; tentative = p.1.1.0; cap = p.1.1.1 }) (λ _. refl)

-- 1. How tokens are dealt to readers

-- The way in which an outport deals its tokens: it has this many readers, and each token goes to every one.
abbrev pub Spread : Type 0
Spread = ℕ

-- The number, in the port, of reader k's own token number n.
unfoldable pub place : Spread → ℕ → ℕ → ℕ
place s k n = n

-- How many of the first `written` tokens of the port are reader k's.
unfoldable pub count : Spread → ℕ → ℕ → ℕ
count s written k = written

abbrev pub spread : OutView → Spread
spread o = length o.readers

-- How many of its own tokens reader k has.
abbrev pub count_of : OutView → ℕ → ℕ
count_of o k = count (spread o) o.write k

-- The number of the first held token.
abbrev pub first_held : OutView → ℕ
first_held o = o.write - length o.held

-- Token number n of the port, where it is held.
abbrev pub token_at : OutView → ℕ → Option Token
token_at o n = if nat_lt n (first_held o) then None else slice_get o.held (n - first_held o)

-- Reader k's token number n, where it is held.
abbrev pub token_for : OutView → ℕ → ℕ → Option Token
token_for o k n = token_at o (place (spread o) k n)

-- 2. The positions of a port

-- The number of the first token that one of these readers, the first of which is reader k, has not
-- acknowledged; `written` where there is none.
abbrev pub first_needed_from : Spread → ℕ → ℕ → List Reader → ℕ
first_needed_from s written k [] = written
first_needed_from s written k (r ∷ rs) =
    min (place s k r.acked) (first_needed_from s written (k + 1) rs)

abbrev pub first_needed : OutView → ℕ
first_needed o = first_needed_from (spread o) o.write 0 o.readers

-- No reader has acknowledged more of its tokens than it has.
abbrev pub AreWritten : ℕ → List Reader → Type 0
AreWritten written readers =
    (k : ℕ) (r : Reader) → slice_get readers k ≡ Some r → r.acked ≤ count (length readers) written k

-- What holds of every outport. A token is held from its write on until its last reader acknowledges
-- it, so without readers nothing is held.
pub record IsOutPort (o : OutView) : Type 0 where
  pub some_room : 1 ≤ o.cap
  pub within_room : length o.held ≤ o.cap
  pub held_from : length o.held + first_needed o ≡ o.write
  pub bounded : o.write ≤ 2 ^ 62
  pub in_order : (k : ℕ) (r : Reader) → slice_get o.readers k ≡ Some r → (r.acked ≤ r.sent) × (r.sent ≤ count_of o k)

-- How many tokens an inport received.
abbrev pub received : InView → ℕ
received i = i.taken + length i.held

-- What holds of every inport.
pub record IsInPort (i : InView) : Type 0 where
  pub some_room : 1 ≤ i.cap
  pub within_room : length i.held ≤ i.cap
  pub read_are_held : i.tentative ≤ length i.held
  pub bounded : received i ≤ 2 ^ 62

-- 3. Ports as they are made

-- A reader that acknowledged this many tokens, and to which no other was sent.
abbrev pub reader_from : ℕ → Subscription → Reader
reader_from acked s = record { conn = s.conn; consumer = s.consumer; acked = acked; sent = acked }

abbrev pub new_out : ℕ → List Subscription → OutView
new_out cap readers =
    record { held = []; write = 0; cap = cap; readers = map (reader_from 0) readers }

abbrev pub out_at : ℕ → ℕ → List Token → List Subscription → OutView
out_at cap write held readers =
    record {
      held = held;
      write = write;
      cap = cap;
      readers = map (λ (s : Subscription). reader_from s.acked s) readers;
    }

abbrev pub new_in : ℕ → InView
new_in cap = record { held = []; taken = 0; tentative = 0; cap = cap }

abbrev pub in_at : ℕ → ℕ → List Token → InView
in_at cap taken held = record { held = held; taken = taken; tentative = 0; cap = cap }

-- 4. The calls of an outport

-- How many more tokens the port can hold.
abbrev pub space : OutView → ℕ
space o = o.cap - length o.held

-- What readers leave of a token that was just written: without readers nobody needs it.
abbrev pub needed_by : List Reader → List Token → List Token
needed_by [] held = []
needed_by (r ∷ rs) held = held

-- The port after this token was written.
abbrev pub after_write : OutView → Token → OutView
after_write o t =
    record o { held = needed_by o.readers (o.held ++ t ∷ []); write = o.write + 1 }

-- The port with reader k at these positions. No token goes yet.
abbrev pub with_reader : OutView → ℕ → Reader → ℕ → ℕ → OutView
with_reader o k r acked sent =
    record o { readers = slice_set o.readers k (record r { acked = acked; sent = sent }) }

-- The port without the tokens that every reader has acknowledged.
abbrev pub released : OutView → OutView
released o = record o { held = drop (first_needed o - first_held o) o.held }

-- Whether reader k, which stands as shown, may acknowledge its tokens up to this number.
abbrev pub may_ack : OutView → ℕ → ℕ → Option Reader → Bool
may_ack o k upto None = false
may_ack o k upto (Some r) = nat_lt r.acked upto && nat_le upto (count_of o k)

abbrev pub acknowledges : OutView → ℕ → ℕ → Bool
acknowledges o k upto = may_ack o k upto (slice_get o.readers k)

abbrev pub acknowledged : OutView → ℕ → ℕ → Option Reader → Bool → OutView
acknowledged o k upto (Some r) true = released (with_reader o k r upto (max r.sent upto))
acknowledged o k upto r b = o

-- The port after reader k acknowledged its tokens up to this number.
abbrev pub after_ack : OutView → ℕ → ℕ → OutView
after_ack o k upto =
    acknowledged o k upto (slice_get o.readers k) (acknowledges o k upto)

abbrev pub rewound : OutView → ℕ → Option Reader → OutView
rewound o k None = o
rewound o k (Some r) = with_reader o k r r.acked r.acked

-- The port after reader k was rewound: what it has not acknowledged is to be sent again.
abbrev pub after_rewind : OutView → ℕ → OutView
after_rewind o k = rewound o k (slice_get o.readers k)

abbrev pub marked_sent : OutView → ℕ → Option Reader → OutView
marked_sent o k None = o
marked_sent o k (Some r) = with_reader o k r r.acked (r.sent + 1)

-- The port after one more token was sent to reader k.
abbrev pub after_sent : OutView → ℕ → OutView
after_sent o k = marked_sent o k (slice_get o.readers k)

-- Whether reader k, which stands as shown, has a token that was not sent to it.
abbrev pub HasUnsent : OutView → ℕ → Reader → Type 0
HasUnsent o k r = r.sent < count_of o k

-- Whether reader k, which stands as shown, has a token number n that it has not acknowledged.
abbrev pub IsThere : OutView → ℕ → ℕ → Option Reader → Type 0
IsThere o k n None = ⊥
IsThere o k n (Some r) = (r.acked ≤ n) × (n < count_of o k)

-- 5. The calls of an inport

-- How the port answers token number n: a number below `received` is old, one above leaves a gap, and
-- the next one is taken where there is room.
abbrev pub answer_to : InView → ℕ → Offered
answer_to i n =
    if nat_lt n (received i)
    then answers.Old
    else
    (if nat_lt (received i) n
    then answers.Gap
    else
    (if nat_eq (length i.held) i.cap
    then answers.Full
    else answers.Taken))

abbrev pub with_offered : InView → Token → Offered → InView
with_offered i t answers.Taken = record i { held = i.held ++ t ∷ [] }
with_offered i t _ = i

-- The port after this token was offered as number n.
abbrev pub after_offer : InView → ℕ → Token → InView
after_offer i n t = with_offered i t (answer_to i n)

-- The port after its first n tokens were read tentatively.
abbrev pub after_peek : InView → ℕ → InView
after_peek i n = record i { tentative = max i.tentative n }

-- The port after its first n tokens were taken.
abbrev pub after_commit : InView → ℕ → InView
after_commit i n = record i { held = drop n i.held; taken = i.taken + n; tentative = 0 }

-- The port after its tentative reads were given up.
abbrev pub after_cancel : InView → InView
after_cancel i = record i { tentative = 0 }
