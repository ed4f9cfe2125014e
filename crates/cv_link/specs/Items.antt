-- The items of one link, as contracts see them: which of its frames are lost, come twice, or begin a cut.
use Rattle.std.specs.Prelude.{ℕ, ◌==◌, ◌≤◌, ◌&&◌, Bool, List, fold, refl, IsTrue, if◌then◌else◌}
use Rattle.std.specs.Ordering.{nat_cmp}
use Rattle.std.specs.FinSet as set
use Rattle.std.specs.Coded.{Coded, code_by, coded×, coded_ℕ}
use Rattle.cv_link.specs.declared.items.Item.{Item}
use Rattle.cv_link.specs.declared.items.Item.TheVariants.{Move, Lose, Twice, Cut}

-- numbers of frames
abbrev pub Numbers : Type 0
Numbers = set.FinSet nat_cmp

pub record LinkView : Type 0 where
  pub from : ℕ
  pub to : ℕ
  pub lose : Numbers
  pub twice : Numbers
  pub cut : Numbers

abbrev pub link_code : Coded LinkView
link_code =
    code_by (ℕ × (ℕ × (Numbers × (Numbers × Numbers)))) (coded× coded_ℕ (coded× coded_ℕ (coded× (set.code coded_ℕ) (coded× (set.code coded_ℕ) (set.code coded_ℕ))))) (λ l. (l.from, (l.to, (l.lose, (l.twice, l.cut))))) (λ p. record { from = p.0; to = p.1.0; lose = p.1.1.0; twice = p.1.1.1.0; cut = p.1.1.1.1 }) (λ _. refl)

abbrev pub no_items : ℕ → ℕ → LinkView
no_items from to = record { from = from; to = to; lose = set.empty; twice = set.empty; cut = set.empty }

-- whether the link leads from that node to the other
abbrev pub is_between : LinkView → ℕ → ℕ → Bool
is_between l from to = (l.from == from) && (l.to == to)

-- the numbers, with that one where it is asked
abbrev pub number_added : Bool → Numbers → ℕ → Numbers
number_added asked ns k = if asked then set.insert ns k else ns

-- the link with that item, which changes nothing where it is one of another link, or a move
abbrev pub with_item : LinkView → Item → LinkView
with_item l (Move actor node after) = l
with_item l (Lose from to k) = record l { lose = number_added (is_between l from to) l.lose k }
with_item l (Twice from to k) = record l { twice = number_added (is_between l from to) l.twice k }
with_item l (Cut from to k) = record l { cut = number_added (is_between l from to) l.cut k }

-- the link with those of the items that are its own
abbrev pub link_of : ℕ → ℕ → List Item → LinkView
link_of from to items = fold with_item (no_items from to) items

-- some of the numbers is at least `from` and at most `to`
abbrev pub HasWithin : Numbers → ℕ → ℕ → Type 0
HasWithin ns from to = (n : ℕ) × IsTrue (set.contains ns n) × (from ≤ n) × (n ≤ to)
