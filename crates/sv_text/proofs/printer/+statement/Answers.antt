-- One more statement of a block, and its end.
use Rattle.std.proofs.Common.{◌≡◌, ◌+◌, ◌-◌, ℕ, suc, true, List, ◌++◌, drop, string_bytes, sym, ap, subst, ◌∙◌, arith}
use Rattle.std.proofs.lemmas.List.{append-nil}
use Rattle.sv_world.specs.Parts.{Part, parts, block, is_block}
use Rattle.sv_text.specs.Canonical.{run_text}
use Rattle.sv_text.proofs.Printed.{IsMore, more, run_turn}
use Rattle.sv_text.proofs.printer.+statement.Goals as goal

pub put_run-loop-preserved : goal.put_run-loop-preserved
unfolding lib.Utf8.encode
put_run-loop-preserved t c =
    let reads = c.args.reads.now in
    let ps = parts c.loop.nodes in
    let n = c.args.count - (c.loop.counter + 1) in
    let k : c.args.count - c.loop.counter ≡ suc n = omega (arith, c.loop-test.true) in
    let m : IsMore reads n ps = more reads n ps (subst (λ (j : ℕ). is_block (block j ps) ≡ true) k c.loop.invariant.kind) in
    let rest = c.in_ok-put_stmt.ensures.rest in
    record {
      kind = subst (λ (qs : List Part). is_block (block n qs) ≡ true) (sym rest) m.others;
      text = run_turn reads n ps (parts c.put_stmt.new.nodes) (string_bytes c.loop.out) (string_bytes c.push.new.self) (string_bytes c.put_stmt.new.out) _ m rest c.in_ok-push.ensures.bytes c.in_ok-put_stmt.ensures.text
          (ap (λ (j : ℕ). string_bytes c.loop.out ++ run_text reads (block j ps)) (sym k) ∙ c.loop.invariant.text);
      behind = ap (λ (qs : List Part). drop n qs) rest ∙ sym m.behind ∙ ap (λ (j : ℕ). drop j ps) (sym k) ∙ c.loop.invariant.behind;
      shorter = omega (arith, c.loop.invariant.shorter, c.in_ok-put_stmt.ensures.shorter);
    }

pub put_run-returns-clause-text : goal.put_run-returns-clause-text
put_run-returns-clause-text t c =
    let k : c.args.count - c.loop.counter ≡ 0 = omega (arith, c.loop-test.false) in
    sym (append-nil (string_bytes c.loop.out)) ∙ ap (λ (j : ℕ). string_bytes c.loop.out ++ run_text c.args.reads.now (block j (parts c.loop.nodes))) (sym k) ∙ c.loop.invariant.text
