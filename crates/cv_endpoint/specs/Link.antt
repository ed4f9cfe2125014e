-- One connection, from its producer's port to its consumer's, over a link that may lose, repeat and
-- reorder whatever was ever sent.
use Rattle.std.specs.Prelude.{◌≡◌, ℕ, ◌^◌, ◌<◌, ◌≤◌, Bool, true, false, ◌&&◌, not, List, [], ◌∷◌, ◌++◌, length, drop, Option, Some, None, is_some, nat_lt, nat_le, nat_eq, if◌then◌else◌, slice_get}
use Rattle.cv_token.specs.declared.token.Token.{Token}
use Rattle.cv_queue.specs.declared.reader.Subscription.{Subscription}
use Rattle.cv_queue.specs.declared.in_port.Offered.{Offered}
use Rattle.cv_queue.specs.declared.in_port.Offered.TheVariants as offered
use Rattle.cv_queue.specs.Ports.{OutView, InView, place, spread, count_of, token_for, space, received, new_out, new_in, after_write, after_ack, after_rewind, after_sent, answer_to, after_offer, after_peek, after_commit, after_cancel}
use Rattle.cv_endpoint.specs.declared.ends.Answer.{Answer}
use Rattle.cv_endpoint.specs.declared.ends.Answer.TheVariants as answers
use Rattle.cv_endpoint.specs.Ends.{next_number, acked, after_nack, answer_of, to_move, out_after_move, in_after_move}

-- The two ports, what went through them, and everything that was ever sent.
pub record World : Type 0 where
  pub out : OutView
  pub inp : InView
  pub wrote : List Token  -- what was written for this reader, in order
  pub got : List Token  -- what came into the inport, in order
  pub tokens : List (ℕ × Token)  -- each numbered token that was ever sent
  pub told : List Answer  -- each answer that was ever sent

-- One call at one of the two ports. What comes over the link is chosen among all that was ever sent:
-- so it may come late, again or never.
pub data Event : Type 0 where
  Writes : Token → Event
  Sends : (window : ℕ) → Event
  Rewinds : Event
  Token_comes : (which : ℕ) → Event
  Answer_comes : (which : ℕ) → Event
  Other_acks : (reader upto : ℕ) → Event
  Other_sends : (reader window : ℕ) → Event
  Other_rewinds : (reader : ℕ) → Event
  Peeks : ℕ → Event
  Commits : ℕ → Event
  Cancels : Event
  Moves : Event

-- 1. At the producer's port. The connection is that of reader k.

-- A written token is for reader k where it stands at the place of that reader's next one.
abbrev pub dealt : OutView → ℕ → Token → List Token → List Token
dealt o k t wrote =
    if nat_eq (place (spread o) k (count_of o k)) o.write then wrote ++ t ∷ [] else wrote

abbrev pub can_write : OutView → Bool
can_write o = nat_le 1 (space o) && nat_lt o.write (2 ^ 62)

abbrev pub writes : ℕ → World → Token → Bool → World
writes k w t false = w
writes k w t true = record w { out = after_write w.out t; wrote = dealt w.out k t w.wrote }

abbrev pub sends_token : ℕ → World → ℕ → Option Token → World
sends_token k w n None = w
sends_token k w n (Some t) =
    record w { out = after_sent w.out k; tokens = (n, t) ∷ w.tokens }

abbrev pub sends : ℕ → World → Option ℕ → World
sends k w None = w
sends k w (Some n) = sends_token k w n (token_for w.out k n)

abbrev pub answer_comes : ℕ → World → Option Answer → World
answer_comes k w None = w
answer_comes k w (Some (answers.Ack upto)) = record w { out = after_ack w.out k upto }
answer_comes k w (Some (answers.Nack upto)) = record w { out = after_nack w.out k upto }

-- A call for another reader of the port.
abbrev pub other : World → OutView → Bool → World
other w o false = w
other w o true = record w { out = o }

-- 2. At the consumer's port

abbrev pub got_after : List Token → Token → Offered → List Token
got_after got t offered.Taken = got ++ t ∷ []
got_after got t _ = got

abbrev pub takes : World → ℕ → Token → Bool → World
takes w n t false = w
takes w n t true =
    record w {
      inp = after_offer w.inp n t;
      got = got_after w.got t (answer_to w.inp n);
      told = answer_of w.inp n t ∷ w.told;
    }

abbrev pub token_comes : World → Option (ℕ × Token) → World
token_comes w None = w
token_comes w (Some f) = takes w f.0 f.1 (nat_lt (received w.inp) (2 ^ 62))

abbrev pub reads : World → InView → Bool → World
reads w i false = w
reads w i true = record w { inp = i }

-- 3. Both ports in one place

abbrev pub got_by_move : InView → ℕ → Option Token → List Token → List Token
got_by_move i n None got = got
got_by_move i n (Some t) got = if nat_lt n (received i) then got else got ++ t ∷ []

abbrev pub moves : ℕ → World → Bool → World
moves k w false = w
moves k w true =
    record w {
      out = out_after_move w.out k w.inp;
      inp = in_after_move w.out k w.inp;
      got = got_by_move w.inp (acked w.out k) (to_move w.out k w.inp) w.got;
    }

-- 4. Runs

-- A call whose condition is not met is not made.
abbrev pub happens : ℕ → World → Event → World
happens k w (Writes t) = writes k w t (can_write w.out)
happens k w (Sends window) = sends k w (next_number w.out k window)
happens k w Rewinds = record w { out = after_rewind w.out k }
happens k w (Token_comes which) = token_comes w (slice_get w.tokens which)
happens k w (Answer_comes which) = answer_comes k w (slice_get w.told which)
happens k w (Other_acks j upto) = other w (after_ack w.out j upto) (not (nat_eq j k))
happens k w (Other_sends j window) =
    other w (after_sent w.out j) (not (nat_eq j k) && is_some (next_number w.out j window))
happens k w (Other_rewinds j) = other w (after_rewind w.out j) (not (nat_eq j k))
happens k w (Peeks n) = reads w (after_peek w.inp n) (nat_le n (length w.inp.held))
happens k w (Commits n) = reads w (after_commit w.inp n) (nat_le n w.inp.tentative)
happens k w Cancels = reads w (after_cancel w.inp) true
happens k w Moves = moves k w (nat_le (acked w.out k) (received w.inp))

abbrev pub run : ℕ → List Event → World → World
run k [] w = w
run k (e ∷ es) w = run k es (happens k w e)

-- Both ports as they are made, and nothing sent.
abbrev pub start : ℕ → List Subscription → ℕ → World
start out_cap readers in_cap =
    record {
      out = new_out out_cap readers;
      inp = new_in in_cap;
      wrote = [];
      got = [];
      tokens = [];
      told = [];
    }

-- 5. The laws

abbrev pub IsPrefixOf : List Token → List Token → Type 0
IsPrefixOf xs ys = (rest : List Token) × (xs ++ rest ≡ ys)

-- What holds after every list of calls at two new ports, for each reader of the producer's one.
abbrev pub Always : (ℕ → World → Type 0) → Type 0
Always P =
    (out_cap : ℕ) (readers : List Subscription) (in_cap k : ℕ) (events : List Event) → 1 ≤ out_cap → 1 ≤ in_cap → k < length readers → P k (run k events (start out_cap readers in_cap))

-- What the consumer received begins what its producer wrote: each token once, in order.
abbrev pub IsReceivedInOrder : ℕ → World → Type 0
IsReceivedInOrder k w = IsPrefixOf w.got w.wrote

-- The producer counts no token as acknowledged that the consumer did not receive.
abbrev pub IsAckedReceived : ℕ → World → Type 0
IsAckedReceived k w = acked w.out k ≤ length w.got

-- The producer's port holds each token that was written for the reader and that it did not acknowledge.
abbrev pub IsHeldUntilAcked : ℕ → World → Type 0
IsHeldUntilAcked k w =
    (n : ℕ) → acked w.out k ≤ n → n < length w.wrote → token_for w.out k n ≡ slice_get w.wrote n

-- The consumer's port holds what it received and did not take.
abbrev pub IsHeldUntilTaken : ℕ → World → Type 0
IsHeldUntilTaken k w = (received w.inp ≡ length w.got) × (w.inp.held ≡ drop w.inp.taken w.got)
