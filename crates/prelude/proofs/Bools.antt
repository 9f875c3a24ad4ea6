-- Tests: by cases, and through the connectives.
use mathlib.Core.Path.{◌≡◌, refl, sym}
use mathlib.Core.Bool.{Bool, true, false, cond, ◌&&◌, ◌||◌, true≢false, false≢true}

-- what would make a false test true does not hold
pub fails : (b : Bool) → (b ≡ true → ⊥) → b ≡ false
fails true h = absurd (h refl)
fails false h = refl

pub and_intro : (a b : Bool) → a ≡ true → b ≡ true → (a && b) ≡ true
and_intro true b h k = k
and_intro false b h k = h

pub and_left : (a b : Bool) → (a && b) ≡ true → a ≡ true
and_left true b h = refl
and_left false b h = h

pub and_right : (a b : Bool) → (a && b) ≡ true → b ≡ true
and_right true b h = h
and_right false b h = absurd (false≢true h)

-- a conjunction that fails, by its two cases
pub and_cases : {M : Type 0} (a b : Bool) → (a && b) ≡ false → (a ≡ false → M) → (b ≡ false → M) → M
and_cases true b h f g = g h
and_cases false b h f g = f refl

-- a conjunction, by its first test
pub and_second : (a b : Bool) → a ≡ true → (a && b) ≡ b
and_second true b h = refl
and_second false b h = absurd (false≢true h)

-- a conjunction's second test counts where the first holds
pub and_same : (a b c : Bool) → (a ≡ true → b ≡ c) → (a && b) ≡ (a && c)
and_same true b c h = h refl
and_same false b c h = refl

pub or_left : (a b : Bool) → (a || b) ≡ false → a ≡ false
or_left true b h = h
or_left false b h = refl

pub or_right : (a b : Bool) → (a || b) ≡ false → b ≡ false
or_right true b h = absurd (true≢false h)
or_right false b h = h

-- a disjunction, by its first test
pub or_first : (a b : Bool) → a ≡ true → (a || b) ≡ true
or_first true b h = refl
or_first false b h = absurd (false≢true h)

pub or_second : (a b : Bool) → a ≡ false → (a || b) ≡ b
or_second true b h = absurd (true≢false h)
or_second false b h = refl

-- the first two of three tests change places
pub and_swap : (a b c : Bool) → (a && (b && c)) ≡ (b && (a && c))
and_swap true true c = refl
and_swap true false c = refl
and_swap false true c = refl
and_swap false false c = refl

-- two tests, each of which makes the other true
pub same_truth : (a b : Bool) → (a ≡ true → b ≡ true) → (b ≡ true → a ≡ true) → a ≡ b
same_truth true b f g = sym (f refl)
same_truth false true f g = g refl
same_truth false false f g = refl

-- a disjunction, by its two cases
pub or_cases : {M : Type 0} (a b : Bool) → (a || b) ≡ true → (a ≡ true → M) → (b ≡ true → M) → M
or_cases true b h f g = f refl
or_cases false b h f g = g h

pub or-true : (a b : Bool) → b ≡ true → (a || b) ≡ true
or-true true b h = refl
or-true false b h = h

-- a conditional, by its two cases
pub by_cases {ℓ} : {A : Type ℓ} (M : A → Type 0) (b : Bool) {x y : A} → (b ≡ true → M x) → (b ≡ false → M y) → M (cond b x y)
by_cases M true f g = f refl
by_cases M false f g = g refl

-- two conditionals with equal tests
pub by_both {ℓ} :
    {A : Type ℓ} (M : A → A → Type 0) (b b' : Bool) {x y x' y' : A} →
    b ≡ b' → (b ≡ true → M x x') → (b ≡ false → M y y') → M (cond b x y) (cond b' x' y')
by_both M true true e f g = f refl
by_both M true false e f g = absurd (true≢false e)
by_both M false true e f g = absurd (false≢true e)
by_both M false false e f g = g refl
