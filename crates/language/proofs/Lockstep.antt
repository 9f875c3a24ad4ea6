-- Two systems that agree on the low names take the same step while something low may yet be written; after that,
-- nothing low changes in either.
use Prim.Native.Nat.{ℕ, suc}
use mathlib.Core.Path.{◌≡◌, refl, ap, ap₂, subst, ◌∙◌}
use mathlib.Core.Bool.{Bool, true, false, cond, not, ◌&&◌, ◌||◌}
use mathlib.Core.Option.{Option, none, some}
use mathlib.Core.List.{List}
use mathlib.Core.Logic.{◌⊎◌, inl, inr, ⊎_map}
use lib.IntN.{ℤ}
use Rattle.prelude.proofs.Bools.{and_same, by_cases, by_both}
use Rattle.values.specs.Values.{holds, negation}
use Rattle.language.specs.Syntax.{Names, Exp, constant, register, binary, negated, Occurs, here, left, right, under, Proc, nil, assign, let_in, if_then_else, while, sequence, emit, local, watching, when, parallel, is_nil}
use Rattle.language.specs.Steps.{held, present, apply, evaluate, value, test, Output, silent, assigned, emitted, StepResult, inside, suspended, move, change, Inputs, step}
use Rattle.language.specs.Calls.{Line, System, line_if, called_at, called_for, step_of, output, next}
use Rattle.language.proofs.Stores.{set_unseen, LowEqual, set_low, instant_low, instant_register}
use Rattle.language.proofs.Safe.{LowReads, LowTests, Quiet, Safe, step_uses}

-- what remains of two disjunctions
pick : {X Q : Type 0} → X ⊎ Q → X ⊎ (Q → ⊥) → X
pick (inl x) k = x
pick (inr q) (inl x) = x
pick (inr q) (inr n) = absurd (n q)

first_part : {X Y Q R : Type 0} → X ⊎ R → (X × Y) ⊎ ((Q × R) → ⊥) → X ⊎ (Q → ⊥)
first_part (inl x) k = inl x
first_part (inr r) (inl u) = inl u.0
first_part (inr r) (inr n) = inr (λ q. n (q, r))

second_part : {X Y Q R : Type 0} → Y ⊎ Q → (X × Y) ⊎ ((Q × R) → ⊥) → Y ⊎ (R → ⊥)
second_part (inl y) k = inl y
second_part (inr q) (inl u) = inl u.1
second_part (inr q) (inr n) = inr (λ r. n (q, r))

-- of the body of a construct with a test of its own
body_part : {X Y P R : Type 0} → P → (X × Y) ⊎ ((P × R) → ⊥) → Y ⊎ (R → ⊥)
body_part p k = ⊎_map (λ u. u.1) (λ n r. n (p, r)) k

test_part : {X Y P R : Type 0} → P → X ⊎ R → (X × Y) ⊎ ((P × R) → ⊥) → X
test_part p h k = pick h (⊎_map (λ u. u.0) (λ n r. n (p, r)) k)

pub value_same : (e : Exp) (s t : List ℤ) → ((x : ℕ) → Occurs x e → held s x ≡ held t x) → value e s ≡ value e t
unfolding evaluate value
value_same (constant v) s t h = refl
value_same (register x) s t h = h x here
value_same (binary o a b) s t h =
    ap₂ (apply o) (value_same a s t (λ x i. h x (left i))) (value_same b s t (λ x i. h x (right i)))
value_same (negated a) s t h = ap negation (value_same a s t (λ x i. h x (under i)))

-- outputs that a reader of the low names cannot tell apart
pub data Alike (low : ℕ → Bool) : Output → Output → Type 0 where
  the_same : {o : Output} → Alike low o o
  unseen : {x : ℕ} {v w : ℤ} → low x ≡ false → Alike low (assigned x v) (assigned x w)

-- outputs that a reader of the low names does not see
pub data Hidden (low : ℕ → Bool) : Output → Type 0 where
  no_output : Hidden low silent
  no_assignment : {x : ℕ} {v : ℤ} → low x ≡ false → Hidden low (assigned x v)
  no_emission : {a : ℕ} → low a ≡ false → Hidden low (emitted a)

module _ {L : Type 0} (names : Names L) (low : ℕ → Bool) where
  -- every test is low, or something low may yet be written
  abbrev pub Lockstep : Proc L → Type 0
  Lockstep p = LowTests names low p ⊎ (Quiet names low p → ⊥)

  present_same : {s t : List ℤ} {a : ℕ} → LowEqual low s t → low a ≡ true → present s a ≡ present t a
  present_same {a = a} q l = ap holds (q.agree a l)

  test_same : (e : Exp) {s t : List ℤ} → LowEqual low s t → LowReads names low e → test e s ≡ test e t
  test_same e q l = ap holds (value_same e _ _ (λ x o. q.agree x (l x o)))

  suspended_same :
      (p : Proc L) (s t : List ℤ) → LowEqual low s t → Safe names low p → Lockstep p → suspended p s ≡ suspended p t
  unfolding suspended
  suspended_same nil s t q h k = refl
  suspended_same (assign x e) s t q h k = refl
  suspended_same (let_in x δ e p) s t q h k = refl
  suspended_same (if_then_else e p p') s t q h k = refl
  suspended_same (while e p) s t q h k = refl
  suspended_same (sequence p p') s t q h k = suspended_same p s t q h.1 (first_part h.0 k)
  suspended_same (emit a) s t q h k = refl
  suspended_same (local a δ p) s t q h k = refl
  suspended_same (watching a p) s t q h k = suspended_same p s t q h.1 (body_part tt k)
  suspended_same (when a p) s t q h k =
      ap₂ (λ b c. not b || c) (present_same q (test_part tt h.0 k)) (suspended_same p s t q h.1 (body_part tt k))
  suspended_same (parallel p p') s t q h k =
      ap₂
      ◌&&◌
      (suspended_same p s t q h.2 (first_part h.0 k))
      (suspended_same p' s t q h.3 (second_part h.1 k))

  abbrev Equal : Proc L → Proc L → Type 0
  Equal p q = p ≡ q

  change_same : (p : Proc L) (s t : List ℤ) → LowEqual low s t → Safe names low p → Lockstep p → change p s ≡ change p t
  unfolding change
  change_same nil s t q h k = refl
  change_same (assign x e) s t q h k = refl
  change_same (let_in x δ e p) s t q h k = refl
  change_same (if_then_else e p p') s t q h k = refl
  change_same (while e p) s t q h k = refl
  change_same (sequence p p') s t q h k = ap (λ z. sequence z p') (change_same p s t q h.1 (first_part h.0 k))
  change_same (emit a) s t q h k = refl
  change_same (local a δ p) s t q h k = refl
  change_same (watching a p) s t q h k =
      by_both
      Equal
      (present s a)
      (present t a)
      (present_same q (test_part tt h.0 k))
      (λ u. refl)
      (λ u. ap (watching a) (change_same p s t q h.1 (body_part tt k)))
  change_same (when a p) s t q h k =
      by_both
      Equal
      (present s a)
      (present t a)
      (present_same q (test_part tt h.0 k))
      (λ u. ap (when a) (change_same p s t q h.1 (body_part tt k)))
      (λ u. refl)
  change_same (parallel p p') s t q h k =
      ap₂
      parallel
      (change_same p s t q h.2 (first_part h.0 k))
      (change_same p' s t q h.3 (second_part h.1 k))

  -- outcomes that differ in nothing low
  pub record SameResult (r r' : StepResult L) : Type 0 where
    pub process : r.process ≡ r'.process
    pub values : LowEqual low r.values r'.values
    pub output : Alike low r.output r'.output

  same_inside :
      (context : Proc L → Proc L) {r r' : StepResult L} → SameResult r r' →
      SameResult (inside context r) (inside context r')
  same_inside context m = record { process = ap context m.process; values = m.values; output = m.output }

  silently : {p p' : Proc L} {s t : List ℤ} → p ≡ p' → LowEqual low s t →
      SameResult (record {
        process =
            p;
        values = s;
        output = silent;
      }) (record { process = p'; values = t; output = silent })
  silently e q = record { process = e; values = q; output = the_same }

  assigned_alike : (x : ℕ) (v w : ℤ) → (low x ≡ true → v ≡ w) → Alike low (assigned x v) (assigned x w)
  assigned_alike x v w h = go (low x) refl
    where
      go : (b : Bool) → low x ≡ b → Alike low (assigned x v) (assigned x w)
      go true l = subst (λ z. Alike low (assigned x v) (assigned x z)) (h l) the_same
      go false l = unseen l

  move_same :
      (p : Proc L) (s t : List ℤ) → LowEqual low s t → Safe names low p → Lockstep p → SameResult (move p s) (move p t)
  unfolding move
  move_same nil s t q h k = silently refl q
  move_same (assign x e) s t q h k =
      let v : low x ≡ true → value e s ≡ value e t = λ l. value_same e s t (λ z o. q.agree z (h l z o)) in
      record {
        process = refl;
        values = set_low low s t q x _ _ v;
        output = assigned_alike x _ _ v;
      }
  move_same (let_in x δ e p) s t q h k =
      silently refl (set_low low s t q x _ _ (λ l. value_same e s t (λ z o. q.agree z (h.0 l z o))))
  move_same (if_then_else e p p') s t q h k =
      let l : LowReads names low e = pick h.0 (⊎_map (λ u. u.0) (λ n u. n (λ x o. tt, u.0, u.1)) k) in
      silently (by_both Equal (test e s) (test e t) (test_same e q l) (λ u. refl) (λ u. refl)) q
  move_same (while e p) s t q h k =
      let l : LowReads names low e = (pick h.0 (⊎_map (λ u. u) (λ n u. n (λ x o. tt, u)) k)).0 in
      silently (by_both Equal (test e s) (test e t) (test_same e q l) (λ u. refl) (λ u. refl)) q
  move_same (sequence p p') s t q h k =
      by_both
      SameResult
      (is_nil p)
      (is_nil p)
      refl
      (λ u. silently refl q)
      (λ u. same_inside (λ z. sequence z p') (move_same p s t q h.1 (first_part h.0 k)))
  move_same (emit a) s t q h k =
      record { process = refl; values = set_low low s t q a _ _ (λ l. refl); output = the_same }
  move_same (local a δ p) s t q h k = silently refl (set_low low s t q a _ _ (λ l. refl))
  move_same (watching a p) s t q h k =
      by_both
      SameResult
      (is_nil p)
      (is_nil p)
      refl
      (λ u. silently refl q)
      (λ u. same_inside (watching a) (move_same p s t q h.1 (body_part tt k)))
  move_same (when a p) s t q h k =
      by_both
      SameResult
      (is_nil p)
      (is_nil p)
      refl
      (λ u. silently refl q)
      (λ u. same_inside (when a) (move_same p s t q h.1 (body_part tt k)))
  move_same (parallel p p') s t q h k =
      let kp = first_part h.0 k in
      by_both
      SameResult
      (is_nil p)
      (is_nil p)
      refl
      (λ u. silently refl q)
      (λ u.
      by_both
      SameResult
      (suspended p s)
      (suspended p t)
      (suspended_same p s t q h.2 kp)
      (λ v. silently refl q)
      (λ v. same_inside (λ z. parallel z p') (move_same p s t q h.2 kp)))

  -- where the same low signals are listed
  step_same :
      (I J : ℕ → Bool) → ((a : ℕ) → low a ≡ true → I a ≡ J a) → (p : Proc L) (s t : List ℤ) → LowEqual low s t →
      Safe names low p → Lockstep p → SameResult (step names I p s) (step names J p t)
  unfolding step
  step_same I J same p s t q h k =
      by_both
      SameResult
      (suspended p s)
      (suspended p t)
      (suspended_same p s t q h k)
      (λ u. silently (change_same p s t q h k) (instant_low names low I J s t same q))
      (λ u. move_same p s t q h k)

  -- an outcome that shows nothing low: its output is hidden, and the session's low registers are as they were
  pub record Unchanged (s : List ℤ) (r : StepResult L) : Type 0 where
    pub hidden : Hidden low r.output
    pub registers :
        (x : ℕ) → low x ≡ true → names.is_session x ≡ true → names.is_signal x ≡ false → held r.values x ≡ held s x

  untouched : (p : Proc L) (s : List ℤ) → Unchanged s (record { process = p; values = s; output = silent })
  untouched p s = record { hidden = no_output; registers = λ x l w i. refl }

  unchanged_inside :
      (context : Proc L → Proc L) {s : List ℤ} {r : StepResult L} → Unchanged s r → Unchanged s (inside context r)
  unchanged_inside context h = record { hidden = h.hidden; registers = h.registers }

  move_unchanged : (p : Proc L) (s : List ℤ) → Quiet names low p → Unchanged s (move p s)
  unfolding move
  move_unchanged nil s h = untouched nil s
  move_unchanged (assign x e) s h =
      record { hidden = no_assignment h; registers = λ y l w i. set_unseen low s x y _ h l }
  move_unchanged (let_in x δ e p) s h =
      record { hidden = no_output; registers = λ y l w i. set_unseen names.is_session s x y _ h.0 w }
  move_unchanged (if_then_else e p q) s h = untouched _ s
  move_unchanged (while e p) s h = untouched _ s
  move_unchanged (sequence p q) s h =
      by_cases
      (Unchanged s)
      (is_nil p)
      (λ u. untouched q s)
      (λ u. unchanged_inside (λ z. sequence z q) (move_unchanged p s h.0))
  move_unchanged (emit a) s h = record { hidden = no_emission h; registers = λ y l w i. set_unseen low s a y _ h l }
  move_unchanged (local a δ p) s h =
      record { hidden = no_output; registers = λ y l w i. set_unseen names.is_session s a y _ h.0 w }
  move_unchanged (watching a p) s h =
      by_cases
      (Unchanged s)
      (is_nil p)
      (λ u. untouched nil s)
      (λ u. unchanged_inside (watching a) (move_unchanged p s h.1))
  move_unchanged (when a p) s h =
      by_cases
      (Unchanged s)
      (is_nil p)
      (λ u. untouched nil s)
      (λ u. unchanged_inside (when a) (move_unchanged p s h.1))
  move_unchanged (parallel p q) s h =
      by_cases
      (Unchanged s)
      (is_nil p)
      (λ u. untouched q s)
      (λ u.
      by_cases
      (Unchanged s)
      (suspended p s)
      (λ v. untouched (parallel q p) s)
      (λ v. unchanged_inside (λ z. parallel z q) (move_unchanged p s h.0)))

  step_unchanged :
      (listed : ℕ → Bool) (p : Proc L) (s : List ℤ) → Quiet names low p → Unchanged s (step names listed p s)
  unfolding step
  step_unchanged listed p s h =
      by_cases
      (Unchanged s)
      (suspended p s)
      (λ u. record { hidden = no_output; registers = λ x l w i. instant_register names listed s x i })
      (λ u. move_unchanged p s h)

  -- Systems. A reader of the low names cannot tell these apart, and they are about to do the same.
  pub record Twins (at at' : System L) : Type 0 where
    pub process : at.process ≡ at'.process
    pub values : LowEqual low at.values at'.values
    pub steps : at.steps ≡ at'.steps
    pub instants : at.instants ≡ at'.instants

  -- the line that a step calls for
  line_same :
      (at at' : System L) → Twins at at' → (b : Bool) (x : ℕ) (v : ℤ) →
      line_if b at.steps at.instants x v ≡ line_if b at'.steps at'.instants x v
  line_same at at' q b x v = ap₂ (λ k i. line_if b k i x v) q.steps q.instants

  -- a low signal that an emission makes present in one of them it makes present in the other
  appears_same :
      {s t : List ℤ} → LowEqual low s t → (a : ℕ) → (low a && not (present s a)) ≡ (low a && not (present t a))
  appears_same q a = and_same (low a) _ _ (λ l. ap not (present_same q l))

  called_same :
      (at at' : System L) → Twins at at' → {o o' : Output} → Alike low o o' →
      called_for low at o ≡ called_for low at' o'
  unfolding called_at
  called_same at at' q (the_same {o = silent}) = refl
  called_same at at' q (the_same {o = assigned x v}) = line_same at at' q (low x) x v
  called_same at at' q (the_same {o = emitted a}) =
      rw (appears_same q.values a) (line_same at at' q (low a && not (present at'.values a)) a _)
  called_same at at' q (unseen h) = rw h refl

  called_none : (at : System L) {o : Output} → Hidden low o → called_for low at o ≡ none
  unfolding called_at
  called_none at no_output = refl
  called_none at (no_assignment h) = rw h refl
  called_none at (no_emission h) = rw h refl

  -- every line is stamped with its step
  abbrev pub Stamped : ℕ → Option Line → Type 0
  Stamped k none = Unit {0}
  Stamped k (some l) = l.step ≡ k

  line_stamped : (b : Bool) (k i x : ℕ) (v : ℤ) → Stamped (suc k) (line_if b k i x v)
  line_stamped true k i x v = refl
  line_stamped false k i x v = tt

  pub called_stamped : (at : System L) (o : Output) → Stamped (suc at.steps) (called_for low at o)
  unfolding called_at
  called_stamped at silent = tt
  called_stamped at (assigned x v) = line_stamped (low x) at.steps at.instants x v
  called_stamped at (emitted a) = line_stamped (low a && not (present at.values a)) at.steps at.instants a _

  -- inputs that name the same low signals
  abbrev pub LowInputs : Inputs → Inputs → Type 0
  LowInputs I J = (i a : ℕ) → low a ≡ true → I i a ≡ J i a

  -- One step of two systems.
  pub record SameStep (I J : Inputs) (at at' : System L) : Type 0 where
    pub twins : Twins (next names I at) (next names J at')
    pub line : called_for low at (output names I at) ≡ called_for low at' (output names J at')

  pub steps_alike :
      (I J : Inputs) → LowInputs I J → (at at' : System L) → Twins at at' → Safe names low at.process →
      Lockstep at.process → SameStep I J at at'
  steps_alike I J same at at' q h k =
      let m : SameResult (step_of names I at) (step_of names J at') =
      subst
      (λ p. SameResult (step_of names I at) (step names (J (suc at'.instants)) p at'.values))
      q.process
      (step_same (I (suc at.instants)) (J (suc at'.instants))
      (λ a l. same (suc at.instants) a l ∙ ap (λ i. J (suc i) a) q.instants)
      at.process at.values at'.values q.values h k)
      in
      let e =
      subst
      (λ p. suspended at.process at.values ≡ suspended p at'.values)
      q.process
      (suspended_same at.process at.values at'.values q.values h k)
      in
      record {
        twins =
            record {
              process = m.process;
              values = m.values;
              steps = ap suc q.steps;
              instants = ap₂ (λ b i. cond b (suc i) i) e q.instants;
            };
        line = called_same at at' q m.output;
      }

  -- One step of a system that writes nothing low.
  pub record QuietStep (inputs : Inputs) (at : System L) : Type 0 where
    pub quiet : Quiet names low (next names inputs at).process
    pub line : called_for low at (output names inputs at) ≡ none
    pub registers :
        (x : ℕ) → low x ≡ true → names.is_session x ≡ true → names.is_signal x ≡ false →
        held (next names inputs at).values x ≡ held at.values x

  pub steps_quietly : (inputs : Inputs) (at : System L) → Quiet names low at.process → QuietStep inputs at
  steps_quietly inputs at h =
      let listed = inputs (suc at.instants) in
      let k = step_unchanged listed at.process at.values h in
      record {
        quiet = step_uses _ _ _ names listed at.process at.values h;
        line = called_none at k.hidden;
        registers = k.registers;
      }
