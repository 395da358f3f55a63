-- What a task left is taken in, and a pass by the keeper.
use Rattle.std.proofs.Common.{◌+◌, ◌≤◌, ◌++◌, [], ◌∷◌, length, vec_len, sym, ap, subst, ◌∙◌, append_assoc, arith, length-append}
use Rattle.std.specs.Vec.{vec_capacity}
use Rattle.std.specs.List.{AllByRecursion, flat_map}
use Rattle.sv_threads.specs.Tasks.{serviced_of, played_of}
use Rattle.sv_threads.specs.RunRemains.{ends_of, RemainsHaveRoom, HasFewSessions, Gathered, JoinedPasses, IsOfLock}
use Rattle.sv_threads.proofs.Leaving.{ends_count}
use Rattle.sv_threads.proofs.Taken.{gathered_server, gathered_client, joined_server, joined_client}
use Rattle.sv_threads.proofs.gathering.gather.Goals as goal

pub loop-out-preserved-in-Served : goal.loop-out-preserved-in-Served
loop-out-preserved-in-Served g c =
    let i = c.loop-out.invariant in
    let s = c.in-Some.ensures.steps in
    let f = c.in-Served in
    let t = c.take_server.ensures in
    let j = c.join.ensures in
    let yielded = c.loop-out.yielded in
    let rest = c.next.new.self.rest.items in
    let left = c.take_server.new.self in
    let e = s.0 ∙ ap (λ o. o ∷ rest) f.is in
    let r = subst (λ os. RemainsHaveRoom (length (serviced_of os)) (length (flat_map ends_of (played_of os))) (length (played_of os)) c.loop-out.left) e i.room in
    let fit = r.servers_fit in
    let size = t.room.0 in
    let room = t.room.1 in
    record {
      all = append_assoc yielded (c.in-Some.out ∷ []) rest ∙ (ap (λ l. yielded ++ l) (sym s.0) ∙ i.all);
      gathered =
          subst (λ o. Gathered (yielded ++ o ∷ []) left) (sym f.is)
          (gathered_server yielded f.field-0 c.loop-out.left left i.gathered t.server t.lacked (ap (λ v. v.items) t.same.0) (ap (λ v. v.items) t.same.1) (ap (λ v. v.items) t.same.2));
      joined =
          subst (λ o. JoinedPasses (serviced_of (yielded ++ o ∷ [])) c.args.keeper.now c.join.new.keeper) (sym f.is)
          (joined_server yielded f.field-0 c.args.keeper.now c.loop-out.keeper c.join.new.keeper i.joined j.same.0 j.same.1 j.same.2 j.same.4 j.ended j.seen.0 j.seen.1
          (record { just = j.just; below = j.below; legal = j.lawful }));
      passes = (subst (λ os. AllByRecursion (IsOfLock c.args.lock.now) (serviced_of os)) e i.passes).1;
      numbers = subst (λ os. AllByRecursion HasFewSessions (played_of os)) e i.numbers;
      room =
          record {
            servers_fit = omega (arith, fit, size, room);
            ends_fit = subst (λ v. vec_len v + length (flat_map ends_of (played_of rest)) ≤ vec_capacity v) (sym t.same.0) r.ends_fit;
            traces_fit = subst (λ v. vec_len v + length (played_of rest) ≤ vec_capacity v) (sym t.same.1) r.traces_fit;
            lines_fit = subst (λ v. vec_len v + length (played_of rest) ≤ vec_capacity v) (sym t.same.2) r.lines_fit;
          };
    }

pub take_client-requires-clause-clients : goal.take_client-requires-clause-clients
take_client-requires-clause-clients g c =
    let i = c.loop-out.invariant in
    let s = c.in-Some.ensures.steps in
    let p = c.in-Played.player in
    let rest = c.next.new.self.rest.items in
    let e = s.0 ∙ ap (λ o. o ∷ rest) c.in-Played.is in
    let r = subst (λ os. RemainsHaveRoom (length (serviced_of os)) (length (flat_map ends_of (played_of os))) (length (played_of os)) c.loop-out.left) e i.room in
    let fit = r.ends_fit in
    let both = length-append (ends_of p) (flat_map ends_of (played_of rest)) in
    let own = ends_count p.trace p.trace.first p.ends.items in
    omega (arith, fit, both, own)

pub loop-out-preserved : goal.loop-out-preserved
loop-out-preserved g c =
    let i = c.loop-out.invariant in
    let s = c.in-Some.ensures.steps in
    let f = c.in-Played in
    let p = f.player in
    let t = c.take_client.ensures in
    let yielded = c.loop-out.yielded in
    let rest = c.next.new.self.rest.items in
    let left = c.take_client.new.self in
    let e = s.0 ∙ ap (λ o. o ∷ rest) f.is in
    let r = subst (λ os. RemainsHaveRoom (length (serviced_of os)) (length (flat_map ends_of (played_of os))) (length (played_of os)) c.loop-out.left) e i.room in
    let ends_fit = r.ends_fit in
    let traces_fit = r.traces_fit in
    let lines_fit = r.lines_fit in
    let both = length-append (ends_of p) (flat_map ends_of (played_of rest)) in
    let own = ends_count p.trace p.trace.first p.ends.items in
    let size = t.size in
    let room = t.room in
    record {
      all = append_assoc yielded (c.in-Some.out ∷ []) rest ∙ (ap (λ l. yielded ++ l) (sym s.0) ∙ i.all);
      gathered =
          subst (λ o. Gathered (yielded ++ o ∷ []) left) (sym f.is)
          (gathered_client yielded p c.loop-out.left left i.gathered t.ends t.trace t.lines t.lacked (ap (λ v. v.items) t.same));
      joined = subst (λ o. JoinedPasses (serviced_of (yielded ++ o ∷ [])) c.args.keeper.now c.loop-out.keeper) (sym f.is) (joined_client yielded p c.args.keeper.now c.loop-out.keeper i.joined);
      passes = subst (λ os. AllByRecursion (IsOfLock c.args.lock.now) (serviced_of os)) e i.passes;
      numbers = (subst (λ os. AllByRecursion HasFewSessions (played_of os)) e i.numbers).1;
      room =
          record {
            servers_fit = subst (λ v. vec_len v + length (serviced_of rest) ≤ vec_capacity v) (sym t.same) r.servers_fit;
            ends_fit = (let n = size.0 in let m = room.0 in omega (arith, ends_fit, both, own, n, m));
            traces_fit = (let n = size.1 in let m = room.1 in omega (arith, traces_fit, n, m));
            lines_fit = (let n = size.2 in let m = room.2 in omega (arith, lines_fit, n, m));
          };
    }
