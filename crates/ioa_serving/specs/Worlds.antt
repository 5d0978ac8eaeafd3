-- What a call does to its files and its devices: the files by the store's own words, the devices by what they show before it and after it.
use Rattle.std.specs.Prelude.{◌≡◌, ℕ, List, Option}
use Rattle.ioa_value.specs.Actions.{Name}
use Rattle.ioa_device.specs.Devices.{Change}
use Rattle.ioa_serving.specs.Placing.{Blocks, Places, Yields}

-- what the files are to a call: what a load before it may give, and where it may fail; where bytes that begin with a mark may not be put, and where what stands
-- gives way to them; what was put where; whether all files are as they were; and what a load after it may give, and where it may fail
pub record Files : Type 1 where
  pub holds : Name → List ℕ → Type 0
  pub lacks : Name → Type 0
  pub blocks : List ℕ → Name → Type 0
  pub yields : List ℕ → Name → Type 0
  pub places : List ℕ → Name → List ℕ → Type 0
  pub kept : Type 0
  pub held : Name → List ℕ → Type 0
  pub lacked : Name → Type 0

-- of a store, by its own words
abbrev pub files : {F : Type 0} → (F → Name → List ℕ → Type 0) → (F → Name → Type 0) → (F → Name → Option (List ℕ) → Type 0) → (F → Name → Type 0) → (F → F → Name → List ℕ → Type 0) → F → F → Files
files holds lacks begins bars saves old new = record {
  holds = holds old;
  lacks = lacks old;
  blocks = λ begun. Blocks begun (begins old) (bars old);
  yields = λ begun. Yields begun (begins old);
  places = λ begun. Places begun (begins old) (saves old new);
  kept = new ≡ old;
  held = holds new;
  lacked = lacks new;
}

-- of a store that is only read
abbrev pub read_only : {F : Type 0} → (F → Name → List ℕ → Type 0) → (F → Name → Type 0) → F → Files
read_only holds lacks store = record {
  holds = holds store;
  lacks = lacks store;
  blocks = λ _ _. ⊥;
  yields = λ _ _. ⊥;
  places = λ _ _ _. ⊥;
  kept = Unit {0};
  held = holds store;
  lacked = lacks store;
}

-- of a call that does not come to a store
abbrev pub no_files : Files
no_files = record {
  holds = λ _ _. ⊥;
  lacks = λ _. ⊥;
  blocks = λ _ _. ⊥;
  yields = λ _ _. ⊥;
  places = λ _ _ _. ⊥;
  kept = Unit {0};
  held = λ _ _. ⊥;
  lacked = λ _. ⊥;
}

-- all that a call may change: the files, what it reads, what it writes, and where it tells what went wrong
pub record World : Type 1 where
  pub files : Files
  pub input : Change
  pub output : Change
  pub errors : Change

abbrev pub world : Files → Change → Change → Change → World
world files input output errors = record { files = files; input = input; output = output; errors = errors }
