-- What the check leaves to prove of `by_sources`.
use Rattle.std.proofs.Common.{◌≡◌, ℕ, suc, ◌+◌, ◌<◌, ◌≤◌, ◌++◌, List, [], ◌∷◌, length, map, max, sym, ◌∙◌, ap, arith, length-append}
use Rattle.sv_world.specs.declared.action.Action.{Action}
use Rattle.sv_world.specs.Control.{action_at, influence, chain_length, distance}
use Rattle.sv_world.specs.Trees.{greatest}
use Rattle.sv_queue.specs.Queue.{queue_actions}
use Rattle.sv_influence.proofs.Chains.{left, left-first, within-first, left-next, within-next, taken-within, max-none, chain-few, left-some, left-none, greatest-left}
use Rattle.std.proofs.Math.Nat.{max-zero}
use Rattle.sv_influence.proofs.Looks.{queue_length, writer-above}
use Rattle.sv_influence.proofs.influence.by_sources.Goals as goal

pub loop-pos-init : goal.loop-pos-init
loop-pos-init g c =
    let v = c.args.queue.now in
    let A = queue_actions v in
    let a = c.args.action.now in
    let n = queue_length v in
    let l = c.last-next.ensures in
    let next : c.last-next.result + 1 ≡ suc (length A) = omega arith in
    let all : left A v.commit a c.want_writers.new.wanted ≡ influence A v.commit a =
    left-first A v.commit a (c.last-next.result + 1) c.want_writers.new.wanted c.new-wanted.result (writer-above v) next c.new-wanted.ensures c.in_ok-want_writers.ensures in
    record {
      within = within-first A v.commit a (c.last-next.result + 1) c.want_writers.new.wanted c.new-wanted.result (writer-above v) next c.new-wanted.ensures c.in_ok-want_writers.ensures;
      count = (let e : length (left A v.commit a c.want_writers.new.wanted) ≡ chain_length A v.commit a = ap length all in omega arith);
      far = max-none (greatest (map (λ (j : ℕ). distance a.origin (action_at A j).origin) (left A v.commit a c.want_writers.new.wanted)))
          ∙ ap (λ (ks : List ℕ). greatest (map (λ (j : ℕ). distance a.origin (action_at A j).origin) ks)) all;
    }

pub entry-taken-requires : goal.entry-taken-requires
entry-taken-requires g c =
    let v = c.args.queue.now in
    let n = queue_length v in
    let b = taken-within v.commit (length (queue_actions v)) c.in-Some.pos c.loop-pos.wanted c.pop.new.self c.loop-pos.invariant.within c.in-Some.ensures.greatest in
    let high : c.in-Some.pos ≤ length (queue_actions v) = b.1 in
    (b.0, omega arith)

pub overflow_add-count : goal.overflow_add-count
overflow_add-count g c =
    let v = c.args.queue.now in
    let A = queue_actions v in
    let n = queue_length v in
    let few : chain_length A v.commit c.args.action.now ≤ length A = chain-few A v.commit c.args.action.now in
    let some' : 0 < length (left A v.commit c.args.action.now c.loop-pos.wanted) =
    left-some A v.commit c.args.action.now c.in-Some.pos c.loop-pos.wanted c.pop.new.self c.loop-pos.invariant.within c.in-Some.ensures.greatest in
    let count = c.loop-pos.invariant.count in
    let room = c.requires.room in
    omega arith

pub want_sources-requires-clause-pos : goal.want_sources-requires-clause-pos
want_sources-requires-clause-pos g c =
    let v = c.args.queue.now in
    let n = queue_length v in
    let b = taken-within v.commit (length (queue_actions v)) c.in-Some.pos c.loop-pos.wanted c.pop.new.self c.loop-pos.invariant.within c.in-Some.ensures.greatest in
    let high : c.in-Some.pos ≤ length (queue_actions v) = b.1 in
    (b.0, omega arith)

pub loop-pos-smaller : goal.loop-pos-smaller
loop-pos-smaller g c =
    let v = c.args.queue.now in
    let A = queue_actions v in
    let a = c.args.action.now in
    let taken : left A v.commit a c.loop-pos.wanted ≡ left A v.commit a c.want_sources.new.wanted ++ c.in-Some.pos ∷ [] =
    left-next A v.commit a c.entry-taken.result.action.now c.in-Some.pos c.loop-pos.wanted c.pop.new.self c.want_sources.new.wanted (writer-above v) c.loop-pos.invariant.within
    c.in-Some.ensures.ascending c.in-Some.ensures.greatest c.entry-taken.ensures.placed c.in_ok-want_sources.ensures in
    let e : length (left A v.commit a c.loop-pos.wanted) ≡ length (left A v.commit a c.want_sources.new.wanted) + 1 =
    ap length taken ∙ length-append (left A v.commit a c.want_sources.new.wanted) (c.in-Some.pos ∷ []) in
    omega arith

pub loop-pos-preserved : goal.loop-pos-preserved
loop-pos-preserved g c =
    let v = c.args.queue.now in
    let A = queue_actions v in
    let a = c.args.action.now in
    let pos = c.in-Some.pos in
    let far = λ (j : ℕ). distance a.origin (action_at A j).origin in
    let placed = c.entry-taken.ensures.placed in
    let taken : left A v.commit a c.loop-pos.wanted ≡ left A v.commit a c.want_sources.new.wanted ++ pos ∷ [] =
    left-next A v.commit a c.entry-taken.result.action.now pos c.loop-pos.wanted c.pop.new.self c.want_sources.new.wanted (writer-above v) c.loop-pos.invariant.within
    c.in-Some.ensures.ascending c.in-Some.ensures.greatest placed c.in_ok-want_sources.ensures in
    let e : length (left A v.commit a c.loop-pos.wanted) ≡ length (left A v.commit a c.want_sources.new.wanted) + 1 =
    ap length taken ∙ length-append (left A v.commit a c.want_sources.new.wanted) (pos ∷ []) in
    let count = c.loop-pos.invariant.count in
    record {
      within = within-next A v.commit c.entry-taken.result.action.now pos c.loop-pos.wanted c.pop.new.self c.want_sources.new.wanted (writer-above v) c.loop-pos.invariant.within
          c.in-Some.ensures.greatest c.in_ok-want_sources.ensures;
      count = omega arith;
      far = ap (λ (n : ℕ). max n (greatest (map far (left A v.commit a c.want_sources.new.wanted))))
          (c.max-far.ensures ∙ ap (λ (n : ℕ). max n c.loop-pos.far) (c.distance.ensures ∙ ap (λ (b : Action). distance a.origin b.origin) placed))
          ∙ greatest-left far (left A v.commit a c.loop-pos.wanted) (left A v.commit a c.want_sources.new.wanted) pos c.loop-pos.far taken
          ∙ c.loop-pos.invariant.far;
    }

pub returns-clause-count : goal.returns-clause-count
returns-clause-count g c =
    let v = c.args.queue.now in
    let A = queue_actions v in
    let none : left A v.commit c.args.action.now c.loop-pos.wanted ≡ [] = left-none A v.commit c.args.action.now c.loop-pos.wanted c.pop.new.self c.in_default.ensures.greatest c.in_default.ensures.none in
    let e : length (left A v.commit c.args.action.now c.loop-pos.wanted) ≡ 0 = ap length none in
    let count = c.loop-pos.invariant.count in
    omega arith

pub returns-clause-far : goal.returns-clause-far
returns-clause-far g c =
    let v = c.args.queue.now in
    let A = queue_actions v in
    let a = c.args.action.now in
    let far = λ (j : ℕ). distance a.origin (action_at A j).origin in
    let none : left A v.commit c.args.action.now c.loop-pos.wanted ≡ [] = left-none A v.commit c.args.action.now c.loop-pos.wanted c.pop.new.self c.in_default.ensures.greatest c.in_default.ensures.none in
    let e : greatest (map far (left A v.commit a c.loop-pos.wanted)) ≡ 0 = ap (λ (ks : List ℕ). greatest (map far ks)) none in
    let so = c.loop-pos.invariant.far in
    sym (max-zero c.loop-pos.far) ∙ ap (λ (n : ℕ). max c.loop-pos.far n) (sym e) ∙ so
