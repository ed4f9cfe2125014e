-- What the words of `run` and `trace` ask for.
use Rattle.std.specs.Prelude.{◌≤◌, ℕ, List, All, length}
use Rattle.cv_words.specs.declared.items.LinkItem.{LinkItem}
use Rattle.cv_words.specs.declared.options.Setting.{Setting}
use Rattle.cv_words.specs.declared.options.Setting.TheVariants.{Nodes, Firings}
use Rattle.cv_words.specs.Items.{IsProper}

-- how many nodes run, how many firings they make at most, and which frames of links are lost or come twice
pub record Run : Type 0 where
  pub nodes : ℕ
  pub firings : ℕ
  pub items : List LinkItem

-- the most nodes, and the most items
abbrev pub most_run_nodes : ℕ
most_run_nodes = 16

abbrev pub most_items : ℕ
most_items = 64

-- what an option sets is in its range
abbrev pub IsSetting : Setting → Type 0
IsSetting (Nodes n) = (1 ≤ n) × (n ≤ most_run_nodes)
IsSetting (Firings n) = Unit {0}

-- from 1 to 16 nodes, and at most 64 items, each of a proper form
pub record IsRun (run : Run) : Type 0 where
  pub some_node : 1 ≤ run.nodes
  pub few_nodes : run.nodes ≤ most_run_nodes
  pub few_items : length run.items ≤ most_items
  pub proper : All IsProper run.items
