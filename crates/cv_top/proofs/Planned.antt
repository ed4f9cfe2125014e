-- Items of which none is stray fit the nodes that run.
use Rattle.std.proofs.Common.{◌≡◌, ℕ, ◌+◌, ◌≤◌, Bool, true, false, ◌||◌, cond, nat_lt, List, [], ◌∷◌, map, All, Some, None, refl, arith}
use Rattle.std.specs.declared.option.Option.{Option}
use Rattle.std.proofs.lemmas.Bool.{ltb-false}
use Rattle.std.proofs.lemmas.List.Elements.{All-nil, All-cons, All-head, All-tail, All-contains}
use Rattle.cv_spread.specs.Placing.{IsLink, ItemFits, ItemsFit}
use Rattle.cv_top.specs.Ran.{IsNear, item_of, link_item}
use Rattle.cv_words.specs.Items.{IsProper, is_stray, stray_from, stray_in}
use Rattle.cv_words.specs.declared.items.LinkItem.{LinkItem}
use Rattle.cv_words.specs.declared.items.Stray.{Stray}
use Rattle.cv_words.specs.declared.items.What.{What}
use Rattle.cv_words.specs.declared.items.What.TheVariants.{Lose, Twice, Cut}

neither : (a b : Bool) → a || b ≡ false → (a ≡ false) × (b ≡ false)
neither true b h = absurd (cc)
neither false b h = (refl, h)

none_found : (b : Bool) (x : Stray) (o : Option Stray) → cond b (Some x) o ≡ None → (b ≡ false) × (o ≡ None)
none_found true x o h = absurd (cc)
none_found false x o h = (refl, h)

of_link : (nodes : ℕ) (w : What) (from to k : ℕ) → IsLink nodes from to → ItemFits nodes (item_of w from to k)
of_link nodes Lose from to k link = link
of_link nodes Twice from to k link = link
of_link nodes Cut from to k link = link

item_fits : (nodes : ℕ) (i : LinkItem) → IsProper i → is_stray nodes i ≡ false → ItemFits nodes (link_item i)
item_fits nodes i proper runs =
    let each = neither (nat_lt nodes i.from) (nat_lt nodes i.to) runs in
    of_link nodes i.what i.from i.to i.k (record {
      sender = (proper.link.from_least, ltb-false nodes i.from each.0);
      receiver = (proper.link.to_least, ltb-false nodes i.to each.1);
      differ = proper.link.differ;
    })

-- of none of them a node is above those that run
each_runs : (nodes place : ℕ) (items : List LinkItem) → stray_from place nodes items ≡ None → All (λ i. is_stray nodes i ≡ false) items
each_runs nodes place [] none = All-nil (λ i. is_stray nodes i ≡ false)
each_runs nodes place (i ∷ items) none =
    let each = none_found (is_stray nodes i) (record { place = place; item = i }) (stray_from (place + 1) nodes items) none in
    All-cons (λ i. is_stray nodes i ≡ false) i items each.0 (each_runs nodes (place + 1) items each.1)

all_fit : (nodes : ℕ) (items : List LinkItem) → All IsProper items → All (λ i. is_stray nodes i ≡ false) items → All (ItemFits nodes) (map link_item items)
all_fit nodes [] proper runs = All-nil (ItemFits nodes)
all_fit nodes (i ∷ items) proper runs =
    All-cons (ItemFits nodes) (link_item i) (map link_item items) (item_fits nodes i (All-head IsProper i items proper) (All-head (λ i. is_stray nodes i ≡ false) i items runs)) (all_fit nodes items (All-tail IsProper i items proper) (All-tail (λ i. is_stray nodes i ≡ false) i items runs))

pub items_fit : (nodes : ℕ) (items : List LinkItem) → All IsProper items → stray_in nodes items ≡ None → ItemsFit nodes (map link_item items)
items_fit nodes items proper none i there =
    All-contains (ItemFits nodes) (map link_item items) i (all_fit nodes items proper (each_runs nodes 0 items none)) there

item_near : (nodes : ℕ) (i : LinkItem) → nodes ≤ 16 → is_stray nodes i ≡ false → IsNear i
item_near nodes i few runs =
    let each = neither (nat_lt nodes i.from) (nat_lt nodes i.to) runs in
    (omega (arith, few, ltb-false nodes i.from each.0), omega (arith, few, ltb-false nodes i.to each.1))

all_near : (nodes : ℕ) (items : List LinkItem) → nodes ≤ 16 → All (λ i. is_stray nodes i ≡ false) items → All IsNear items
all_near nodes [] few runs = All-nil IsNear
all_near nodes (i ∷ items) few runs =
    All-cons IsNear i items (item_near nodes i few (All-head (λ i. is_stray nodes i ≡ false) i items runs)) (all_near nodes items few (All-tail (λ i. is_stray nodes i ≡ false) i items runs))

pub items_near : (nodes : ℕ) (items : List LinkItem) → nodes ≤ 16 → stray_in nodes items ≡ None → All IsNear items
items_near nodes items few none = all_near nodes items few (each_runs nodes 0 items none)
