-- What a search through the ports of an actor finds: what is needed, or given, for a connection; and what a firing leaves of the
-- ports, place by place.
use Rattle.std.proofs.Common.{◌≡◌, ◌⊎◌, inl, inr, ℕ, zero, suc, ◌+◌, Bool, true, false, ◌||◌, List, [], ◌∷◌, map, drop, Option, Some, None, refl, sym, ap, ◌∙◌, arith, if◌then◌else◌}
use Rattle.std.specs.Prelude.{slice_get, unwrap_or, option_to_list}
use Rattle.std.specs.List.{list_any}
use Rattle.std.proofs.Math.Seq.{drop-nil}
use Rattle.std.proofs.lemmas.Option.{same_Some, none-some as none_some}
use Rattle.cv_token.specs.declared.token.Token.{Token}
use Rattle.cv_token.specs.declared.identifiers.ConnId.{ConnId}
use Rattle.cv_table.specs.Order.{same_conn}
use Rattle.cv_table.proofs.Views.{same_conn-cases}
use Rattle.cv_queue.specs.declared.reader.Reader.{Reader}
use Rattle.cv_queue.specs.Ports.{OutView}
use Rattle.cv_protocol.specs.declared.state.Inlet.{Inlet}
use Rattle.cv_protocol.specs.Poll.{first_given, with_token, with_given, taken_from, without_needed}
use Rattle.cv_handover.specs.Meaning.{fed_by, read_by, need_of, gift_of}

-- 1. What is needed for a connection

-- it feeds an inport, of which that is needed
pub record IsNeeded (needs : ℕ → ℕ) (port : ℕ) (ins : List (Option Inlet)) (c : ConnId) : Type 0 where
  pub place : ℕ
  pub feeds : slice_get (map fed_by ins) place ≡ Some (Some c)
  pub needed : need_of needs port ins c ≡ needs (port + place)

-- or none
pub record IsUnneeded (needs : ℕ → ℕ) (port : ℕ) (ins : List (Option Inlet)) (c : ConnId) : Type 0 where
  pub feeds_none : (p : ℕ) → slice_get (map fed_by ins) p ≡ Some (Some c) → ⊥
  pub needed : need_of needs port ins c ≡ 0

past_none : {X : Type 0} (f : X → Option ConnId) (i : X) (ins : List X) (c : ConnId) → (f i ≡ Some c → ⊥) → ((p : ℕ) → slice_get (map f ins) p ≡ Some (Some c) → ⊥) → (p : ℕ) → slice_get (map f (i ∷ ins)) p ≡ Some (Some c) → ⊥
past_none f i ins c other none zero e = other (same_Some (f i) (Some c) e)
past_none f i ins c other none (suc p) e = none p e

need_past : (needs : ℕ → ℕ) (port : ℕ) (i : Option Inlet) (ins : List (Option Inlet)) (c : ConnId) → (fed_by i ≡ Some c → ⊥) → need_of needs port (i ∷ ins) c ≡ need_of needs (suc port) ins c → IsNeeded needs (suc port) ins c ⊎ IsUnneeded needs (suc port) ins c → IsNeeded needs port (i ∷ ins) c ⊎ IsUnneeded needs port (i ∷ ins) c
need_past needs port i ins c other same (inl q) =
    let k : suc port + q.place ≡ port + suc q.place = omega arith in
    inl (record { place = suc q.place; feeds = q.feeds; needed = same ∙ q.needed ∙ ap needs k })
need_past needs port i ins c other same (inr q) = inr (record { feeds_none = past_none fed_by i ins c other q.feeds_none; needed = same ∙ q.needed })

need_here : (needs : ℕ → ℕ) (port : ℕ) (i : Inlet) (ins : List (Option Inlet)) (c : ConnId) → ((same_conn i.conn c ≡ true) × (i.conn ≡ c)) ⊎ ((same_conn i.conn c ≡ false) × ((i.conn ≡ c) → ⊥)) → IsNeeded needs (suc port) ins c ⊎ IsUnneeded needs (suc port) ins c → IsNeeded needs port (Some i ∷ ins) c ⊎ IsUnneeded needs port (Some i ∷ ins) c
need_here needs port i ins c (inl s) later =
    let k : port ≡ port + 0 = omega arith in
    inl (record { place = 0; feeds = ap (λ d. Some (Some d)) s.1; needed = ap (λ (b : Bool). if b then needs port else need_of needs (suc port) ins c) s.0 ∙ ap needs k })
need_here needs port i ins c (inr s) later =
    need_past needs port (Some i) ins c (λ e. s.1 (same_Some i.conn c e)) (ap (λ (b : Bool). if b then needs port else need_of needs (suc port) ins c) s.0) later

pub need_found : (needs : ℕ → ℕ) (port : ℕ) (ins : List (Option Inlet)) (c : ConnId) → IsNeeded needs port ins c ⊎ IsUnneeded needs port ins c
need_found needs port [] c = inr (record { feeds_none = λ p e. none_some (Some c) e; needed = refl })
need_found needs port (None ∷ ins) c = need_past needs port None ins c (λ e. none_some c e) refl (need_found needs (suc port) ins c)
need_found needs port (Some i ∷ ins) c = need_here needs port i ins c (same_conn-cases i.conn c) (need_found needs (suc port) ins c)

-- 2. What is given for a connection

-- a reader of the port has it
pub record IsRead (readers : List Reader) (c : ConnId) : Type 0 where
  pub number : ℕ
  pub reads : slice_get (map (λ (r : Reader). r.conn) readers) number ≡ Some c

neither : (r : Reader) (readers : List Reader) (c : ConnId) → ((r.conn ≡ c) → ⊥) → ((k : ℕ) → slice_get (map (λ (x : Reader). x.conn) readers) k ≡ Some c → ⊥) → (k : ℕ) → slice_get (map (λ (x : Reader). x.conn) (r ∷ readers)) k ≡ Some c → ⊥
neither r readers c other none zero e = other (same_Some r.conn c e)
neither r readers c other none (suc k) e = none k e

-- whether a reader has it, as a fact
any_reads : (readers : List Reader) (c : ConnId) → ((list_any (λ (r : Reader). same_conn r.conn c) readers ≡ true) × IsRead readers c) ⊎ ((list_any (λ (r : Reader). same_conn r.conn c) readers ≡ false) × ((k : ℕ) → slice_get (map (λ (r : Reader). r.conn) readers) k ≡ Some c → ⊥))
any_reads [] c = inr (refl, λ k e. none_some c e)
any_reads (r ∷ readers) c =
    elim (same_conn-cases r.conn c) [
      | inl s ↦ inl (ap (λ (b : Bool). b || list_any (λ (x : Reader). same_conn x.conn c) readers) s.0, record { number = 0; reads = ap Some s.1 })
      | inr s ↦
          elim (any_reads readers c) [
            | inl q ↦ inl ((λ z. s.0 z || q.0 z), record { number = suc q.1.number; reads = q.1.reads })
            | inr q ↦ inr ((λ z. s.0 z || q.0 z), neither r readers c s.1 q.1)
          ]
    ]

pub record IsGiven (out : List (Option Token)) (outs : List OutView) (c : ConnId) : Type 0 where
  pub place : ℕ
  pub conns : List ConnId
  pub port : slice_get (map read_by outs) place ≡ Some conns
  pub number : ℕ
  pub reads : slice_get conns number ≡ Some c
  pub given : gift_of out outs c ≡ option_to_list (first_given (drop place out))

pub record IsUngiven (out : List (Option Token)) (outs : List OutView) (c : ConnId) : Type 0 where
  pub read_nowhere : (p : ℕ) (conns : List ConnId) (k : ℕ) → slice_get (map read_by outs) p ≡ Some conns → slice_get conns k ≡ Some c → ⊥
  pub given : gift_of out outs c ≡ []

-- what is left behind the first ones
pub drop_next : (k : ℕ) (out : List (Option Token)) → drop k (drop 1 out) ≡ drop (suc k) out
drop_next k [] = drop-nil k
drop_next k (g ∷ out) = refl

nowhere : (o : OutView) (outs : List OutView) (c : ConnId) → ((k : ℕ) → slice_get (read_by o) k ≡ Some c → ⊥) → ((p : ℕ) (conns : List ConnId) (k : ℕ) → slice_get (map read_by outs) p ≡ Some conns → slice_get conns k ≡ Some c → ⊥) → (p : ℕ) (conns : List ConnId) (k : ℕ) → slice_get (map read_by (o ∷ outs)) p ≡ Some conns → slice_get conns k ≡ Some c → ⊥
nowhere o outs c none later zero conns k e f = none k (ap (λ cs. slice_get cs k) (same_Some (read_by o) conns e) ∙ f)
nowhere o outs c none later (suc p) conns k e f = later p conns k e f

gift_here : (out : List (Option Token)) (o : OutView) (outs : List OutView) (c : ConnId) → ((list_any (λ (r : Reader). same_conn r.conn c) o.readers ≡ true) × IsRead o.readers c) ⊎ ((list_any (λ (r : Reader). same_conn r.conn c) o.readers ≡ false) × ((k : ℕ) → slice_get (read_by o) k ≡ Some c → ⊥)) → IsGiven (drop 1 out) outs c ⊎ IsUngiven (drop 1 out) outs c → IsGiven out (o ∷ outs) c ⊎ IsUngiven out (o ∷ outs) c
gift_here out o outs c (inl s) later =
    inl (record {
      place = 0;
      conns = read_by o;
      port = refl;
      number = s.1.number;
      reads = s.1.reads;
      given = ap (λ (b : Bool). if b then option_to_list (first_given out) else gift_of (drop 1 out) outs c) s.0;
    })
gift_here out o outs c (inr s) (inl q) =
    inl (record {
      place = suc q.place;
      conns = q.conns;
      port = q.port;
      number = q.number;
      reads = q.reads;
      given = ap (λ (b : Bool). if b then option_to_list (first_given out) else gift_of (drop 1 out) outs c) s.0 ∙ q.given ∙ ap (λ gs. option_to_list (first_given gs)) (drop_next q.place out);
    })
gift_here out o outs c (inr s) (inr q) =
    inr (record {
      read_nowhere = nowhere o outs c s.1 q.read_nowhere;
      given = ap (λ (b : Bool). if b then option_to_list (first_given out) else gift_of (drop 1 out) outs c) s.0 ∙ q.given;
    })

pub gift_found : (out : List (Option Token)) (outs : List OutView) (c : ConnId) → IsGiven out outs c ⊎ IsUngiven out outs c
gift_found out [] c = inr (record { read_nowhere = λ p conns k e f. none_some conns e; given = refl })
gift_found out (o ∷ outs) c = gift_here out o outs c (any_reads o.readers c) (gift_found (drop 1 out) outs c)

-- 3. The ports after a firing

-- an inport from which the needed tokens were taken
pub record IsLeft (needs : ℕ → ℕ) (port : ℕ) (ins : List (Option Inlet)) (p : ℕ) (j : Option Inlet) : Type 0 where
  pub before : Option Inlet
  pub stood : slice_get ins p ≡ Some before
  pub after : j ≡ taken_from (needs (port + p)) before

pub left_at : (needs : ℕ → ℕ) (port : ℕ) (ins : List (Option Inlet)) (p : ℕ) (j : Option Inlet) → slice_get (without_needed needs port ins) p ≡ Some j → IsLeft needs port ins p j
left_at needs port [] p j e = absurd (none_some j e)
left_at needs port (i ∷ ins) zero j e =
    let k : port ≡ port + 0 = omega arith in
    record { before = i; stood = refl; after = sym (same_Some _ j e) ∙ ap (λ q. taken_from (needs q) i) k }
left_at needs port (i ∷ ins) (suc p) j e =
    let q = left_at needs (suc port) ins p j e in
    let k : suc port + p ≡ port + suc p = omega arith in
    record { before = q.before; stood = q.stood; after = q.after ∙ ap (λ r. taken_from (needs r) q.before) k }

fed_taken : (count : ℕ) (i : Option Inlet) → fed_by (taken_from count i) ≡ fed_by i
fed_taken count None = refl
fed_taken count (Some i) = refl

pub fed_left : (needs : ℕ → ℕ) (port : ℕ) (ins : List (Option Inlet)) → map fed_by (without_needed needs port ins) ≡ map fed_by ins
fed_left needs port [] = refl
fed_left needs port (i ∷ ins) = λ z. fed_taken (needs port) i z ∷ fed_left needs (suc port) ins z

-- an outport with its token
pub record IsFilled (out : List (Option Token)) (outs : List OutView) (q : ℕ) (o : OutView) : Type 0 where
  pub before : OutView
  pub stood : slice_get outs q ≡ Some before
  pub after : o ≡ with_token before (first_given (drop q out))

pub filled_at : (out : List (Option Token)) (outs : List OutView) (q : ℕ) (o : OutView) → slice_get (with_given out outs) q ≡ Some o → IsFilled out outs q o
filled_at out [] q o e = absurd (none_some o e)
filled_at out (x ∷ outs) zero o e = record { before = x; stood = refl; after = sym (same_Some _ o e) }
filled_at out (x ∷ outs) (suc q) o e =
    let f = filled_at (drop 1 out) outs q o e in
    record { before = f.before; stood = f.stood; after = f.after ∙ ap (λ gs. with_token f.before (first_given gs)) (drop_next q out) }

read_token : (o : OutView) (g : Option Token) → read_by (with_token o g) ≡ read_by o
read_token o None = refl
read_token o (Some t) = refl

pub read_filled : (out : List (Option Token)) (outs : List OutView) → map read_by (with_given out outs) ≡ map read_by outs
read_filled out [] = refl
read_filled out (o ∷ outs) = λ z. read_token o (first_given out) z ∷ read_filled (drop 1 out) outs z

-- what is given at a place, and none past the last one
pub given_there : (q : ℕ) (out : List (Option Token)) → first_given (drop q out) ≡ unwrap_or (slice_get out q) None
given_there zero [] = refl
given_there (suc q) [] = refl
given_there zero (g ∷ out) = refl
given_there (suc q) (g ∷ out) = given_there q out
