-- What the table of places finds.
use Rattle.std.proofs.Common.{◌≡◌, ℕ, ◌+◌, ◌<◌, ◌≤◌, List, [], ◌∷◌, ◌++◌, map, length, slice_get, Option, Some, None, option_map, refl, sym, ◌∙◌, ap, subst, arith}
use Rattle.std.proofs.lemmas.List.{length-map, map-append}
use Rattle.std.specs.Prelude.{option_and_then}
use Rattle.cv_token.specs.declared.pairs.Pair.{Pair}
use Rattle.cv_expand.specs.declared.path.Step.{Step}
use Rattle.cv_expand.specs.Bodies.{Among, Distinct}
use Rattle.cv_expand.specs.Lookup.{lookup}
use Rattle.cv_expand.specs.Paths.{path_text, IsPath}
use Rattle.cv_expand.proofs.PathTexts.{one_path}
use Rattle.cv_expand.proofs.Among.{Among-map}
use Rattle.cv_graph.specs.declared.placing.Head.{Head}
use Rattle.cv_graph.specs.declared.placing.Places.{Places}
use Rattle.cv_graph.specs.declared.port.Port.{Port}
use Rattle.cv_graph.specs.declared.port.Side.{Side}
use Rattle.cv_graph.specs.declared.port.Side.TheVariants as side
use Rattle.cv_graph.specs.Ports.{Place, names_on, HasPort}
use Rattle.cv_graph.specs.Tables.{numbered, number_of, head_of, numbers_on, AreTabled, port_in, port_at, port_found, IsPort}
use Rattle.cv_graph.proofs.Lists.{some_same, among_at, place_among, all_at, all_push, map_at, at_map, one_place, at_behind, behind_at}
use Rattle.cv_graph.proofs.Numbers.{number_at, number_there, numbered-push}

numbers_are : (s : Side) (p : Place) → numbers_on s (head_of p) ≡ numbered 0 (names_on s p)
numbers_are side.In p = refl
numbers_are side.Out p = refl

map_some : {X Y : Type 0} (f : X → Y) (o : Option X) (y : Y) → option_map f o ≡ Some y → (x : X) × (o ≡ Some x) × (f x ≡ y)
map_some f None y e = cc
map_some f (Some x) y e = (x, refl, some_same (f x) y e)

then_some : {X Y : Type 0} (f : X → Option Y) (o : Option X) (y : Y) → option_and_then f o ≡ Some y → (x : X) × (o ≡ Some x) × (f x ≡ Some y)
then_some f None y e = cc
then_some f (Some x) y e = (x, refl, e)

-- ---- paths

-- the place that a path's text finds has this path
place_found : (ps : List Place) (t : Places) (path : List Step) (k : ℕ) → AreTabled ps t → IsPath path → lookup t.by_path (path_text path) ≡ Some k → (p : Place) × (slice_get ps k ≡ Some p) × (p.path ≡ path)
place_found ps t path k tabled is e =
    let found : number_of (map (λ p. path_text p.path) ps) (path_text path) ≡ Some k = ap (λ (l : List (Pair ℕ)). lookup l (path_text path)) (sym tabled.paths) ∙ e in
    let m = map_at (λ (p : Place). path_text p.path) ps k (path_text path) (number_at (map (λ p. path_text p.path) ps) k (path_text path) found) in
    (m.0, m.1, one_path m.0.path path (all_at (λ (p : Place). IsPath p.path) ps k m.0 tabled.named m.1) is m.2)

-- the text of a place's path finds the place
place_finds : (ps : List Place) (t : Places) (path : List Step) (k : ℕ) (p : Place) → AreTabled ps t → Distinct (map (λ p. p.path) ps) → IsPath path → slice_get ps k ≡ Some p → p.path ≡ path → lookup t.by_path (path_text path) ≡ Some k
place_finds ps t path k p tabled apart is e same =
    let text = subst (λ (q : List Step). Among (map (λ (p : Place). path_text p.path) ps) (path_text q)) same (Among-map (λ (p : Place). path_text p.path) ps p (among_at ps k p e)) in
    let n = number_there (map (λ (p : Place). path_text p.path) ps) (path_text path) text in
    let at = ap (λ (l : List (Pair ℕ)). lookup l (path_text path)) tabled.paths ∙ n.1 in
    let f = place_found ps t path n.0 tabled is at in
    at ∙ ap Some (one_place (λ (p : Place). p.path) ps n.0 k f.0 p apart f.1 e (f.2 ∙ sym same))

-- ---- ports

port_is : (k m : ℕ) (s : Side) (p : Port) → record { place = k; side = s; number = m } ≡ p → (p.place ≡ k) × (p.side ≡ s) × (p.number ≡ m)
port_is k m s p e = (ap (λ (q : Port). q.place) (sym e), ap (λ (q : Port). q.side) (sym e), ap (λ (q : Port). q.number) (sym e))

pub port_there : (ps : List Place) (t : Places) (path : List Step) (s : Side) (name : List ℕ) (p : Port) → AreTabled ps t → IsPath path → port_found t path s name ≡ Some p → IsPort ps path s name p
port_there ps t path s name p tabled is e =
    let a = then_some (port_at t s name) (lookup t.by_path (path_text path)) p e in
    let f = place_found ps t path a.0 tabled is a.1 in
    let b = then_some (port_in a.0 s name) (slice_get t.heads a.0) p a.2 in
    let head : b.0 ≡ head_of f.0 = some_same b.0 (head_of f.0) (sym b.1 ∙ ap (λ (hs : List Head). slice_get hs a.0) tabled.heads ∙ at_map head_of ps a.0 f.0 f.1) in
    let c = map_some (λ number. record { place = a.0; side = s; number = number }) (lookup (numbers_on s b.0) name) p b.2 in
    let parts = port_is a.0 c.0 s p c.2 in
    record {
      place = f.0;
      there = subst (λ n. slice_get ps n ≡ Some f.0) (sym parts.0) f.1;
      path_is = f.2;
      side_is = parts.1;
      number_is = ap (λ (l : List (Pair ℕ)). lookup l name) (sym (numbers_are s f.0)) ∙ ap (λ (h : Head). lookup (numbers_on s h) name) (sym head) ∙ c.1 ∙ ap Some (sym parts.2);
    }

pub port_finds : (ps : List Place) (t : Places) (path : List Step) (s : Side) (name : List ℕ) (p : Port) → AreTabled ps t → Distinct (map (λ p. p.path) ps) → IsPath path → IsPort ps path s name p → port_found t path s name ≡ Some p
port_finds ps t path s name p tabled apart is h =
    let at = place_finds ps t path p.place h.place tabled apart is h.there h.path_is in
    let head : slice_get t.heads p.place ≡ Some (head_of h.place) = ap (λ (hs : List Head). slice_get hs p.place) tabled.heads ∙ at_map head_of ps p.place h.place h.there in
    let number : lookup (numbers_on s (head_of h.place)) name ≡ Some p.number = ap (λ (l : List (Pair ℕ)). lookup l name) (numbers_are s h.place) ∙ h.number_is in
    let whole : record { place = p.place; side = s; number = p.number } ≡ p = ap (λ (x : Side). record { place = p.place; side = x; number = p.number }) (sym h.side_is) in
    ap (option_and_then (port_at t s name)) at
    ∙ ap (option_and_then (port_in p.place s name)) head
    ∙ ap (option_map (λ number. record { place = p.place; side = s; number = number })) number
    ∙ ap Some whole

pub port_none : (ps : List Place) (t : Places) (path : List Step) (s : Side) (name : List ℕ) (p : Port) → AreTabled ps t → Distinct (map (λ p. p.path) ps) → IsPath path → port_found t path s name ≡ None → IsPort ps path s name p → ⊥
port_none ps t path s name p tabled apart is none h = let clash : None ≡ Some p = sym none ∙ port_finds ps t path s name p tabled apart is h in cc

-- a port at an earlier place is the only one
pub port_low : (ps : List Place) (t : Places) (path : List Step) (s : Side) (name : List ℕ) (q p : Port) (first : ℕ) → AreTabled ps t → Distinct (map (λ p. p.path) ps) → IsPath path → port_found t path s name ≡ Some q → IsPort ps path s name p → q.place < first → first ≤ p.place → ⊥
port_low ps t path s name q p first tabled apart is found h low high =
    let same : q ≡ p = some_same q p (sym found ∙ port_finds ps t path s name p tabled apart is h) in
    let place : q.place ≡ p.place = ap (λ (x : Port). x.place) same in
    omega (arith, low, high, place)

-- a port stands for one path, side and name
pub one_name : (ps : List Place) (a b : List Step) (s t : Side) (x y : List ℕ) (p : Port) → IsPort ps a s x p → IsPort ps b t y p → (a ≡ b) × (s ≡ t) × (x ≡ y)
one_name ps a b s t x y p h g =
    let place : h.place ≡ g.place = some_same h.place g.place (sym h.there ∙ g.there) in
    let sides : s ≡ t = sym h.side_is ∙ g.side_is in
    let names : names_on s h.place ≡ names_on t g.place = ap (λ (z : Place). names_on s z) place ∙ ap (λ (z : Side). names_on z g.place) sides in
    let first = number_at (names_on s h.place) p.number x h.number_is in
    let second = number_at (names_on t g.place) p.number y g.number_is in
    (sym h.path_is ∙ ap (λ (z : Place). z.path) place ∙ g.path_is, sides, some_same x y (sym first ∙ ap (λ (ns : List (List ℕ)). slice_get ns p.number) names ∙ second))

-- a path, side and name has one port
pub one_port : (ps : List Place) (path : List Step) (s : Side) (name : List ℕ) (p q : Port) → Distinct (map (λ p. p.path) ps) → IsPort ps path s name p → IsPort ps path s name q → p ≡ q
one_port ps path s name p q apart h g =
    let number : p.place ≡ q.place = one_place (λ (z : Place). z.path) ps p.place q.place h.place g.place apart h.there g.there (h.path_is ∙ sym g.path_is) in
    let place : h.place ≡ g.place = some_same h.place g.place (sym h.there ∙ ap (slice_get ps) number ∙ g.there) in
    let same : p.number ≡ q.number = some_same p.number q.number (sym h.number_is ∙ ap (λ (z : Place). number_of (names_on s z) name) place ∙ g.number_is) in
    let side_same : p.side ≡ q.side = h.side_is ∙ sym g.side_is in
    (λ i. record { place = number i; side = side_same i; number = same i })

-- ---- ports that are there

-- a port at a place from those of `qs` on
pub behind_has : (ps qs : List Place) (path : List Step) (s : Side) (name : List ℕ) (p : Port) → IsPort (ps ++ qs) path s name p → length ps ≤ p.place → HasPort qs path s name
behind_has ps qs path s name p h less =
    let b = behind_at ps qs p.place h.place h.there less in
    (h.place, among_at qs b.0 h.place b.1, h.path_is, among_at (names_on s h.place) p.number name (number_at (names_on s h.place) p.number name h.number_is))

pub has_behind : (ps qs : List Place) (path : List Step) (s : Side) (name : List ℕ) → HasPort qs path s name → (p : Port) × IsPort (ps ++ qs) path s name p × (length ps ≤ p.place)
has_behind ps qs path s name h =
    let b = place_among qs h.0 h.1 in
    let n = number_there (names_on s h.0) name h.3 in
    (record { place = length ps + b.0; side = s; number = n.0 }, record { place = h.0; there = at_behind ps qs b.0 h.0 b.1; path_is = h.2; side_is = refl; number_is = n.1 }, omega arith)

-- ---- tables that grow

pub tabled_push : (ps : List Place) (p : Place) (t u : Places) (h : Head) (text : List ℕ) → AreTabled ps t → h ≡ head_of p → text ≡ path_text p.path → IsPath p.path → u.by_path ≡ t.by_path ++ record { key = text; value = length t.heads } ∷ [] → u.heads ≡ t.heads ++ h ∷ []
    → AreTabled (ps ++ p ∷ []) u
tabled_push ps p t u h text tabled head_is text_is is paths heads =
    let count : length t.heads ≡ 0 + length (map (λ (q : Place). path_text q.path) ps) = omega (arith, ap length tabled.heads, length-map ps head_of, length-map ps (λ (q : Place). path_text q.path)) in
    record {
      paths = paths ∙ ap (λ (l : List (Pair ℕ)). l ++ record { key = text; value = length t.heads } ∷ []) tabled.paths
          ∙ ap (λ (x : List ℕ). numbered 0 (map (λ (q : Place). path_text q.path) ps) ++ record { key = x; value = length t.heads } ∷ []) text_is
          ∙ sym (numbered-push (map (λ (q : Place). path_text q.path) ps) 0 (length t.heads) (path_text p.path) count)
          ∙ ap (numbered 0) (sym (map-append (λ (q : Place). path_text q.path) ps (p ∷ [])));
      heads = heads ∙ ap (λ (hs : List Head). hs ++ h ∷ []) tabled.heads ∙ ap (λ (x : Head). map head_of ps ++ x ∷ []) head_is ∙ sym (map-append head_of ps (p ∷ []));
      named = all_push (λ (q : Place). IsPath q.path) ps p tabled.named is;
    }
