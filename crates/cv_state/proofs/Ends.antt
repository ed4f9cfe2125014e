-- Where a connection's producer and its reader stand.
use Rattle.std.proofs.Common.{◌≡◌, ℕ, suc, ◌-◌, ◌<◌, ◌≤◌, Bool, true, false, if◌then◌else◌, List, [], ◌∷◌, length, slice_get, Option, Some, None, refl, ap, sym, ◌∙◌, subst, arith}
use Rattle.std.specs.Option.{option_map}
use Rattle.std.proofs.lemmas.Option.{slice_get_within}
use Rattle.cv_token.specs.declared.identifiers.ConnId.{ConnId}
use Rattle.cv_table.specs.Order.{same_conn}
use Rattle.cv_queue.specs.declared.reader.Reader.{Reader}
use Rattle.cv_queue.specs.Ports.{OutView}
use Rattle.cv_protocol.specs.Actors.{LiveState}
use Rattle.cv_protocol.specs.Rows.{Spot, reader_of, spot_of, spot_or}
use Rattle.cv_actor.specs.Ends.{spot_in}
use Rattle.cv_actor.specs.declared.finding.Spot.{Spot as Found}

-- 1. Spots

found_or : (b : Bool) (x : ℕ × Reader) (rest : Option (ℕ × Reader)) (f : ℕ × Reader) (P : Type 0) → (if b then Some x else rest) ≡ Some f → (x ≡ f → P) → (rest ≡ Some f → P) → P
found_or true x rest f P e here later = here (cc)
found_or false x rest f P e here later = later e

reader_at : (conn : ConnId) (n : ℕ) (rs : List Reader) (f : ℕ × Reader) → reader_of conn n rs ≡ Some f → (n ≤ f.0) × (slice_get rs (f.0 - n) ≡ Some f.1)
reader_at conn n [] f e = absurd (cc)
reader_at conn n (r ∷ rs) f e =
    let At : ℕ → Type 0 = λ k. slice_get (r ∷ rs) k ≡ Some f.1 in
    found_or (same_conn r.conn conn) (n, r) (reader_of conn (suc n) rs) f ((n ≤ f.0) × At (f.0 - n)) e
    (λ is.
    let number : n ≡ f.0 = ap (λ (x : ℕ × Reader). x.0) is in
    let first : 0 ≡ f.0 - n = omega arith in
    (omega arith, subst At first (ap (λ (x : ℕ × Reader). Some x.1) is)))
    (λ later.
    let h = reader_at conn (suc n) rs f later in
    let next : suc (f.0 - suc n) ≡ f.0 - n = omega (arith, h.0) in
    (omega (arith, h.0), subst At next h.1))

-- what is known of a spot
pub record Stands (outs : List OutView) (x : Spot) : Type 0 where
  pub port : slice_get outs x.out ≡ Some x.port
  pub reader : slice_get x.port.readers x.number ≡ Some x.reader

spot_by : (conn : ConnId) (n : ℕ) (o : OutView) (outs : List OutView) (found : Option (ℕ × Reader)) (x : Spot) → reader_of conn 0 o.readers ≡ found → spot_or n o found (spot_of conn (suc n) outs) ≡ Some x → (P : Type 0) → (n ≡ x.out → o ≡ x.port → slice_get x.port.readers x.number ≡ Some x.reader → P) → (spot_of conn (suc n) outs ≡ Some x → P) → P
spot_by conn n o outs None x is e P here later = later e
spot_by conn n o outs (Some f) x is e P here later =
    let made : Spot = record { out = n; number = f.0; reader = f.1; port = o } in
    let same : made ≡ x = cc in
    let h = reader_at conn 0 o.readers f is in
    let zero_less : f.0 - 0 ≡ f.0 = omega arith in
    let there : slice_get made.port.readers made.number ≡ Some made.reader = subst (λ (k : ℕ). slice_get o.readers k ≡ Some f.1) zero_less h.1 in
    here (ap (λ (y : Spot). y.out) same) (ap (λ (y : Spot). y.port) same) (subst (λ (y : Spot). slice_get y.port.readers y.number ≡ Some y.reader) same there)

stands_from : (conn : ConnId) (n : ℕ) (outs : List OutView) (x : Spot) → spot_of conn n outs ≡ Some x → (n ≤ x.out) × (slice_get outs (x.out - n) ≡ Some x.port) × (slice_get x.port.readers x.number ≡ Some x.reader)
stands_from conn n [] x e = absurd (cc)
stands_from conn n (o ∷ outs) x e =
    let At : ℕ → Type 0 = λ k. slice_get (o ∷ outs) k ≡ Some x.port in
    spot_by conn n o outs (reader_of conn 0 o.readers) x refl e ((n ≤ x.out) × At (x.out - n) × (slice_get x.port.readers x.number ≡ Some x.reader))
    (λ out port reader. let first : 0 ≡ x.out - n = omega arith in (omega arith, subst At first (ap Some port), reader))
    (λ later.
    let h = stands_from conn (suc n) outs x later in
    let next : suc (x.out - suc n) ≡ x.out - n = omega (arith, h.0) in
    (omega (arith, h.0), subst At next h.1, h.2))

pub stands : (conn : ConnId) (outs : List OutView) (x : Spot) → spot_of conn 0 outs ≡ Some x → Stands outs x
stands conn outs x e =
    let h = stands_from conn 0 outs x e in
    let zero_less : x.out - 0 ≡ x.out = omega arith in
    record { port = subst (λ (k : ℕ). slice_get outs k ≡ Some x.port) zero_less h.1; reader = h.2 }

-- a spot as the code was told of it
pub record Told (conn : ConnId) (outs : List OutView) (f : Found) : Type 0 where
  pub spot : Spot
  pub there : spot_of conn 0 outs ≡ Some spot
  pub is : f ≡ spot_in spot

told_by : (conn : ConnId) (outs : List OutView) (f : Found) (o : Option Spot) → spot_of conn 0 outs ≡ o → Some f ≡ option_map spot_in o → Told conn outs f
told_by conn outs f None there e = absurd (cc)
told_by conn outs f (Some x) there e = let same : f ≡ spot_in x = cc in record { spot = x; there = there; is = same }

pub told : (conn : ConnId) (outs : List OutView) (f : Found) → Some f ≡ option_map spot_in (spot_of conn 0 outs) → Told conn outs f
told conn outs f e = told_by conn outs f (spot_of conn 0 outs) refl e

-- 2. Outlets

-- the producer's outport and the reader's number are within their lists
pub is_within : (conn : ConnId) (outs : List OutView) (f : Found) (o : OutView) → Told conn outs f → Some o ≡ slice_get outs f.out → f.number < length o.readers
is_within conn outs f o t is =
    let h = stands conn outs t.spot t.there in
    let out : f.out ≡ t.spot.out = ap (λ (y : Found). y.out) t.is in
    let number : f.number ≡ t.spot.number = ap (λ (y : Found). y.number) t.is in
    let same_some : Some o ≡ Some t.spot.port = is ∙ ap (slice_get outs) out ∙ h.port in
    let same : o ≡ t.spot.port = cc in
    let within = slice_get_within t.spot.port.readers t.spot.number t.spot.reader h.reader in
    subst (λ (p : OutView). f.number < length p.readers) (sym same) (subst (λ (k : ℕ). k < length t.spot.port.readers) (sym number) within)

-- the port of the spot that the code was told
pub port_is : (conn : ConnId) (outs : List OutView) (f : Found) (o : OutView) (t : Told conn outs f) → Some o ≡ slice_get outs f.out → o ≡ t.spot.port
port_is conn outs f o t is =
    let h = stands conn outs t.spot t.there in
    let out : f.out ≡ t.spot.out = ap (λ (y : Found). y.out) t.is in
    let same_some : Some o ≡ Some t.spot.port = is ∙ ap (slice_get outs) out ∙ h.port in
    cc

-- a spot that was told has its port
pub lost : (conn : ConnId) (outs : List OutView) (f : Found) → Told conn outs f → None ≡ slice_get outs f.out → ⊥
lost conn outs f t none =
    let h = stands conn outs t.spot t.there in
    let out : f.out ≡ t.spot.out = ap (λ (y : Found). y.out) t.is in
    let same : None ≡ Some t.spot.port = none ∙ ap (slice_get outs) out ∙ h.port in
    cc

-- the same of an actor that was found twice
pub told_again : (conn : ConnId) (l m : LiveState) (f : Found) → l ≡ m → Some f ≡ option_map spot_in (spot_of conn 0 l.actor.outs) → Told conn m.actor.outs f
told_again conn l m f same e =
    told conn m.actor.outs f (e ∙ ap (λ (x : LiveState). option_map spot_in (spot_of conn 0 x.actor.outs)) same)
