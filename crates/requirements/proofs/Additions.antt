-- Flows that are added one after the other, and from each level of a set.
use mathlib.Core.Path.{◌≡◌, refl, sym, ap, ap₂, ◌∙◌}
use mathlib.Core.Bool.{Bool, true, false, ◌&&◌, ◌||◌, or_assoc, or-false}
use mathlib.Core.List.{List}
use Prim.Native.Nat.{ℕ, ◌-◌, ◌^◌, ◌<◌}
use native.Mathlib.Nat.{le_refl}
use native.Mathlib.Decide.{ℕ_discrete}
use native.Mathlib.Omega.{arith}
use lib.ListN.{get_or, set, length}
use lib.Seq.{get_or-set_same, get_or-set_other}
use Rattle.prelude.specs.Search.{first}
use Rattle.prelude.specs.Sets.{has, IsSet}
use Rattle.prelude.proofs.Sets.{has_zero, out_same, out_other}
use Rattle.book.specs.LevelBook.{most_levels}
use Rattle.book.proofs.Lowest.{next_below, next_in}
use Rattle.requirements.specs.Promises.{Adds}

pub adds_none : {flows : List ℕ} → Adds flows (λ i j. false) flows
adds_none {flows} = record { each = λ i j hi hj. sym (or-false (has (get_or flows i 0) j)) }

pub adds_same :
    {before after : List ℕ} {f g : ℕ → ℕ → Bool} →
    ((i j : ℕ) → i < most_levels → j < most_levels → f i j ≡ g i j) → Adds before f after → Adds before g after
adds_same {before} same h =
    record { each = λ i j hi hj. h.each i j hi hj ∙ ap (λ b. has (get_or before i 0) j || b) (same i j hi hj) }

pub adds_more :
    {before middle after : List ℕ} {f g : ℕ → ℕ → Bool} → Adds before f middle → Adds middle g after →
    Adds before (λ i j. f i j || g i j) after
adds_more {before} {f = f} {g = g} h k =
    record {
      each =
          λ i j hi hj.
          k.each i j hi hj ∙ ap (λ b. b || g i j) (h.each i j hi hj)
          ∙ or_assoc (has (get_or before i 0) j) (f i j) (g i j);
    }

-- from no flow on
pub adds_first :
    {before after : List ℕ} {f : ℕ → ℕ → Bool} → ((i : ℕ) → i < most_levels → get_or before i 0 ≡ 0) → Adds before f after →
    (i j : ℕ) → i < most_levels → j < most_levels → has (get_or after i 0) j ≡ f i j
adds_first {f = f} none h i j hi hj =
    h.each i j hi hj ∙ ap (λ b. b || f i j) (ap (λ n. has n j) (none i hi) ∙ has_zero j)

-- with what is still to be added, from each level of `left` to each of `to`, the flows are all
abbrev pub Pending : List ℕ → ℕ → ℕ → List ℕ → ℕ → Type 0
Pending before from to flows left =
    (i j : ℕ) → i < most_levels → j < most_levels →
    (has (get_or flows i 0) j || (has left i && has to j)) ≡ (has (get_or before i 0) j || (has from i && has to j))

pub pending_done :
    (before flows : List ℕ) (from to left : ℕ) → left ≡ 0 → Pending before from to flows left →
    Adds before (λ i j. has from i && has to j) flows
pending_done before flows from to left e h =
    record {
      each =
          λ i j hi hj.
          sym (ap (λ b. has (get_or flows i 0) j || (b && has to j)) (ap (λ n. has n i) e ∙ has_zero i) ∙ or-false _)
          ∙ h i j hi hj;
    }

pub pending_more :
    (before flows : List ℕ) (from to left i merged : ℕ) → length flows ≡ most_levels → i < most_levels → has left i ≡ true →
    IsSet most_levels (λ j. has (get_or flows i 0) j || has to j) merged → Pending before from to flows left →
    Pending before from to (set flows i merged) (left - 2 ^ i)
pending_more before flows from to left i merged long l own union h k j hk hj =
    elim (ℕ_discrete k i) [
      | yes e ↦
          ap₂ (λ a b. has a j || (b && has to j))
          (ap (λ k. get_or (set flows i merged) k 0) e ∙ get_or-set_same flows i merged 0 (omega (arith, l, long)))
          (ap (has (left - 2 ^ i)) e ∙ out_same left i own)
          ∙ or-false _
          ∙ union j hj
          ∙ sym (ap₂ (λ a b. has a j || (b && has to j)) (ap (λ k. get_or flows k 0) e) (ap (has left) e ∙ own))
          ∙ h k j hk hj
      | no e ↦
          ap₂ (λ a b. has a j || (b && has to j)) (get_or-set_other flows i k merged 0 e)
          (out_other left i own k e)
          ∙ h k j hk hj
    ]

-- the smallest level of a set that has one
pub lowest_below : (set : ℕ) → set < 2 ^ most_levels → (set ≡ 0 → ⊥) → first (has set) most_levels < most_levels
lowest_below set h some = next_below set most_levels _ (le_refl most_levels) h some refl

pub lowest_in : (set : ℕ) → set < 2 ^ most_levels → (set ≡ 0 → ⊥) → has set (first (has set) most_levels) ≡ true
lowest_in set h some = next_in set most_levels _ (le_refl most_levels) h some refl
