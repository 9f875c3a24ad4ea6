-- `run_checked`: the program of the script, a clear state, and owned names given back.
use mathlib.Core.Path.{◌≡◌, sym, ap, ◌∙◌}
use Prim.Native.Nat.{ℕ, ◌≤◌}
use native.Mathlib.Omega.{arith}
use lib.ListN.{take, length, replicate, length-replicate}
use Rattle.layout.proofs.Layouts.{few_bounds, nodes_are}
use Rattle.program.specs.Program.{node_count}
use Rattle.residual.proofs.Residuals.{take_zeros}
use Rattle.engine.proofs.Starting.{listed_in, returns_run}
use Rattle.engine.proofs.run_checked.Goals as goal

-- the state is clear
zeros-taken : (n m : ℕ) → n ≤ 256 → n ≡ m → take {A = ℕ} n (replicate 256 0) ≡ replicate m 0
zeros-taken n m h e = take_zeros n 256 h ∙ ap (λ k. replicate k 0) e

pub slice_bounds-state-end : goal.slice_bounds-state-end
slice_bounds-state-end c = omega (arith, few_bounds c.args.checked.now.file.layout c.args.checked.now.file.laid.few)

pub run-ran-requires : goal.run-ran-requires
run-ran-requires c =
    let pre = c.requires in
    let p = c.find_plan-program.ensures in
    record {
      can = record {
        valued = record { runnable = p.runnable; named = pre.named ∙ sym p.names };
        node =
            record {
              known = omega (arith, p.runnable.some);
              whole =
                  ap length (zeros-taken c.args.checked.now.file.layout.nodes _ (few_bounds c.args.checked.now.file.layout c.args.checked.now.file.laid.few).1.1.1
                  (nodes_are c.args.checked.now.file.laid ∙ sym c.find_plan-program.ensures.nodes))
                  ∙ length-replicate (node_count c.find_plan-program.result) 0
                  ∙ sym p.runnable.whole;
            };
        counted = record { time = omega arith; most = pre.most; instants = omega arith; space = omega arith };
      };
      right = listed_in p pre.right;
    }

pub returns : goal.returns
returns c =
    returns_run c.args.checked.now.file.bytes.now c.args.checked.now.checked c.find_plan-program.ensures _ _ _ _ _ (zeros-taken c.args.checked.now.file.layout.nodes _ (few_bounds c.args.checked.now.file.layout c.args.checked.now.file.laid.few).1.1.1
    (nodes_are c.args.checked.now.file.laid ∙ sym c.find_plan-program.ensures.nodes)) c.requires.named
    c.run-ran.ensures c.clear_owned.ensures
