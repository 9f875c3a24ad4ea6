-- The lattice that the language's rules take: its operations, and their laws.
use Rattle.std.specs.Prelude.{◌≡◌, Bool, true, cond, List, ℕ, ltb}
use Rattle.order.specs.Order.{Relation, least_upper, greatest_lower, top, bottom}
use Rattle.book.specs.LevelBook.{count, rows, at_or_below}

pub record Lattice (L : Type 0) : Type 0 where
  pub leq : L → L → Bool
  pub join : L → L → L
  pub meet : L → L → L
  pub top : L
  pub bottom : L

pub record Laws {L : Type 0} (𝓛 : Lattice L) : Type 0 where
  pub reflexive : (a : L) → 𝓛.leq a a ≡ true
  pub transitive : (a b c : L) → 𝓛.leq a b ≡ true → 𝓛.leq b c ≡ true → 𝓛.leq a c ≡ true
  pub join_left : (a b : L) → 𝓛.leq a (𝓛.join a b) ≡ true
  pub join_right : (a b : L) → 𝓛.leq b (𝓛.join a b) ≡ true
  pub join_least : (a b c : L) → 𝓛.leq a c ≡ true → 𝓛.leq b c ≡ true → 𝓛.leq (𝓛.join a b) c ≡ true
  pub meet_left : (a b : L) → 𝓛.leq (𝓛.meet a b) a ≡ true
  pub meet_right : (a b : L) → 𝓛.leq (𝓛.meet a b) b ≡ true
  pub meet_greatest : (a b c : L) → 𝓛.leq c a ≡ true → 𝓛.leq c b ≡ true → 𝓛.leq c (𝓛.meet a b) ≡ true
  pub below_top : (a : L) → 𝓛.leq a 𝓛.top ≡ true
  pub above_bottom : (a : L) → 𝓛.leq 𝓛.bottom a ≡ true

-- A number that is no level of the book counts as level 0, so that the laws hold of all numbers.
-- No checked script or reader has such a number.
abbrev pub as_level : ℕ → ℕ → ℕ
as_level n a = cond (ltb a n) a 0

-- the lattice of n levels under a relation
abbrev pub lattice_of : Relation → ℕ → Lattice ℕ
lattice_of R n =
    record {
      leq = λ a b. R (as_level n a) (as_level n b);
      join = λ a b. least_upper R n (as_level n a) (as_level n b);
      meet = λ a b. greatest_lower R n (as_level n a) (as_level n b);
      top = top R n;
      bottom = bottom R n;
    }

-- the lattice of a book
abbrev pub book_lattice : List ℕ → Lattice ℕ
book_lattice s = lattice_of (at_or_below (rows s)) (count s)
