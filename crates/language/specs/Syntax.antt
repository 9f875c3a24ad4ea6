-- RR-5594, 2.1, and 01, 'Script file': names, expressions, processes. A name is its number in the file.
use Rattle.std.specs.Prelude.{ℕ, Bool, true, false, ℤ}

-- 'Name: kind (0 register, 1 signal), level, owner. Owner 65535 makes it a session name.' The report's variables and
-- signals are two disjoint sets: here the kind of a name says in which it is.
pub record Names (L : Type 0) : Type 0 where
  pub is_signal : ℕ → Bool
  pub level : ℕ → L
  pub is_session : ℕ → Bool

pub data Operator : Type 0 where
  add subtract multiply divide less equal : Operator

pub data Exp : Type 0 where
  constant : ℤ → Exp
  register : ℕ → Exp
  binary : Operator → Exp → Exp → Exp
  negated : Exp → Exp

-- x ∈ fv(e)
pub data Occurs (x : ℕ) : Exp → Type 0 where
  here : Occurs x (register x)
  left : {o : Operator} {a b : Exp} → Occurs x a → Occurs x (binary o a b)
  right : {o : Operator} {a b : Exp} → Occurs x b → Occurs x (binary o a b)
  under : {a : Exp} → Occurs x a → Occurs x (negated a)

-- Processes, in the order of 01's kinds 0 to 10. As in the report, a declaration carries its level.
pub data Proc (L : Type 0) : Type 0 where
  nil : Proc L
  assign : ℕ → Exp → Proc L
  let_in : ℕ → L → Exp → Proc L → Proc L
  if_then_else : Exp → Proc L → Proc L → Proc L
  while : Exp → Proc L → Proc L
  sequence : Proc L → Proc L → Proc L
  emit : ℕ → Proc L
  local : ℕ → L → Proc L → Proc L
  watching : ℕ → Proc L → Proc L
  when : ℕ → Proc L → Proc L
  parallel : Proc L → Proc L → Proc L

unfoldable pub is_nil : {L : Type 0} → Proc L → Bool
is_nil nil = true
is_nil (assign x e) = false
is_nil (let_in x δ e p) = false
is_nil (if_then_else e p q) = false
is_nil (while e p) = false
is_nil (sequence p q) = false
is_nil (emit a) = false
is_nil (local a δ p) = false
is_nil (watching a p) = false
is_nil (when a p) = false
is_nil (parallel p q) = false
