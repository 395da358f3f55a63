-- Who joined, one call after the other.
use Rattle.std.proofs.Common.{◌≡◌, ◌⊎◌, inl, inr, ℕ, Bool, true, false, ◌&&◌, not, List, Option, Some, None, refl, sym, ap, ◌∙◌, subst}
use Rattle.sv_wire.specs.declared.message.Request.{Request}
use Rattle.sv_wire.specs.declared.message.Request.TheVariants as requests
use Rattle.sv_journal.specs.declared.entry.Entry.{Entry}
use Rattle.sv_journal.specs.Sessions.{is_end}
use Rattle.sv_living.specs.World.{WorldView}
use Rattle.sv_keys.specs.Keeping.{KeysView, AreHeld, has_key}
use Rattle.sv_keeper.specs.Views.{KeeperView}
use Rattle.sv_log.specs.Pictures.{Disk}
use Rattle.sv_log.specs.declared.folder.Folder.{Ghosts}
use Rattle.sv_ports.specs.Traffic.{Traffic}
use Rattle.sv_office.specs.Admitting.{is_admitted, is_observe, is_stewards_number, number_in, shows_key, steward_number}
use Rattle.sv_office.specs.Entering.{AreAdded, CameOfHeld, GoesOn, IsEndOf, IsReport, IsStewards, MayEnter, is_steward_ask}
use Rattle.sv_office.specs.Renewing.{AreHeldFor, KeepsKeys}
use Rattle.sv_office.specs.declared.guest.Held.{Held}
use Rattle.sv_office.specs.declared.office.Office.{Office}
use Rattle.sv_office.proofs.Adding.{added_as, added_then}
use Rattle.sv_office.proofs.Renewed.{held_as, kept_same, kept_then}
use Rattle.sv_host.specs.Joining.{IsNoJoin, JoinByKeys, LetsIn, LetsNobodyIn, LetsStewardIn, MayJoinByKeys, MayJoinAs}
use Rattle.sv_host.specs.Causes.{HasStopped}
use Rattle.sv_host.specs.Rooms.{IsAnEnd}
use Rattle.sv_host.specs.Served.{HostBreaksOff}
use Rattle.sv_host.specs.Staffing.{AreKeysFor, AreRead}
use Rattle.sv_host.specs.declared.ending.Stopped.{Stopped}

-- ---- What is no Join

pub no_join_reports : (r : Request) → is_steward_ask r ≡ true → number_in r ≡ None
no_join_reports (requests.Join client life interest) is = let clash : false ≡ true = is in cc
no_join_reports (requests.Submit seq action) is = refl
no_join_reports (requests.Done results) is = refl
no_join_reports requests.Poll is = refl
no_join_reports (requests.Observe objects wait) is = refl
no_join_reports requests.Leave is = refl
no_join_reports requests.Bad is = refl
no_join_reports requests.End is = refl

pub no_join_ends : (r : Request) → is_end r ≡ true → number_in r ≡ None
no_join_ends (requests.Join client life interest) is = let clash : false ≡ true = is in cc
no_join_ends (requests.Submit seq action) is = refl
no_join_ends (requests.Done results) is = refl
no_join_ends requests.Poll is = refl
no_join_ends (requests.Observe objects wait) is = refl
no_join_ends requests.Leave is = refl
no_join_ends requests.Bad is = refl
no_join_ends requests.End is = refl

pub no_join_observes : (r : Request) → is_observe r ≡ true → number_in r ≡ None
no_join_observes (requests.Join client life interest) is = let clash : false ≡ true = is in cc
no_join_observes (requests.Submit seq action) is = refl
no_join_observes (requests.Done results) is = refl
no_join_observes requests.Poll is = refl
no_join_observes (requests.Observe objects wait) is = refl
no_join_observes requests.Leave is = refl
no_join_observes requests.Bad is = refl
no_join_observes requests.End is = refl

-- ---- Nobody joins

pub nobody_same : {old new : Option KeysView} {v w : WorldView} → new ≡ old → w ≡ v → LetsNobodyIn old new v w
nobody_same {v = v} same stays =
    record { keys = same; added = subst (λ (x : WorldView). AreAdded IsNoJoin v.history x.history) (sym stays) AreAdded.none }

pub nobody_kept : {F : Type 0} {old new : Option KeysView} {a b : KeeperView F} → new ≡ old → b ≡ a → LetsNobodyIn old new a.world b.world
nobody_kept {F} same stays = nobody_same same (ap (λ (k : KeeperView F). k.world) stays)

pub nobody_office : {F : Type 0} {k : Ghosts F} {a b : Office F k} → b ≡ a → LetsNobodyIn a.keys b.keys a.keeper.world b.keeper.world
nobody_office {F} {k} same = nobody_same (ap (λ (o : Office F k). o.keys) same) (ap (λ (o : Office F k). o.keeper.world) same)

pub nobody_then : {a b c : Option KeysView} {u v w : WorldView} → LetsNobodyIn a b u v → LetsNobodyIn b c v w → LetsNobodyIn a c u w
nobody_then first next = record { keys = next.keys ∙ first.keys; added = added_then first.added next.added }

-- The steward reported.
pub nobody_reported : {old new : Option KeysView} {v w : WorldView} {steward : Option ℕ} → new ≡ old → GoesOn (IsReport steward) v w → LetsNobodyIn old new v w
nobody_reported same on = record { keys = same; added = added_as (λ e is. no_join_reports e.request is.1) on.added }

-- A session has its End.
pub nobody_ended : {old new : Option KeysView} {v w : WorldView} {mine : Option ℕ} → new ≡ old → GoesOn (IsEndOf mine) v w → LetsNobodyIn old new v w
nobody_ended same on = record { keys = same; added = added_as (λ e is. no_join_ends e.request is.1) on.added }

pub nobody_ends : {old new : Option KeysView} {v w : WorldView} → new ≡ old → GoesOn IsAnEnd v w → LetsNobodyIn old new v w
nobody_ends same on = record { keys = same; added = added_as (λ e is. no_join_ends e.request is) on.added }

-- What was held is answered.
held_no_join : (h : List Entry) (steward mine : Option ℕ) (held : Option Held) (e : Entry) → CameOfHeld h steward mine held e → IsNoJoin e
held_no_join h steward mine held e (inl report) = no_join_reports e.request report.1
held_no_join h steward mine held e (inr (asks, inl ends)) = no_join_ends e.request ends
held_no_join h steward mine None e (inr (asks, inr is)) = absurd is
held_no_join h steward mine (Some held) e (inr (asks, inr is)) =
    no_join_observes e.request (subst (λ (r : Request). is_observe r ≡ true) (sym is) held.observes)

pub nobody_released : {old new : Option KeysView} {v w : WorldView} (h : List Entry) (steward mine : Option ℕ) (held : Option Held) → new ≡ old
    → GoesOn (CameOfHeld h steward mine held) v w → LetsNobodyIn old new v w
nobody_released h steward mine held same on = record { keys = same; added = added_as (held_no_join h steward mine held) on.added }

-- ---- Who joins has a key

may_as : {before now : List ℕ → Option (List ℕ)} → ((name : List ℕ) → now name ≡ before name) → (named : Option (List ℕ)) (number : Option ℕ)
    → MayJoinAs now named number → MayJoinAs before named number
may_as same None number may = tt
may_as same (Some name) None may = tt
may_as same (Some name) (Some client) (inl steward) = inl steward
may_as {before} {now} same (Some name) (Some client) (inr key) = inr (record {
  keys = key.keys;
  held = held_as {before = now} {now = before} (λ n. sym (same n)) (Some name) (Some key.keys) key.held;
  digest = key.digest;
  has = key.has;
})

pub lets_in : {before now : List ℕ → Option (List ℕ)} {old new : Option KeysView} {v w : WorldView} → KeepsKeys before now old new → JoinByKeys before old v w
    → LetsIn before now old new v w
lets_in kept join = record { kept = kept; join = join }

pub lets_same : {before now : List ℕ → Option (List ℕ)} {old new : Option KeysView} {v w : WorldView} → now ≡ before → new ≡ old → w ≡ v
    → LetsIn before now old new v w
lets_same {before} {now} {old} {new} {v} {w} files same stays = record {
  kept = kept_same (λ name. subst (λ (f : List ℕ → Option (List ℕ)). f name ≡ before name) (sym files) refl) same;
  join = record { added = λ named held. subst (λ (x : WorldView). AreAdded (MayJoinByKeys before named) v.history x.history) (sym stays) AreAdded.none };
}

pub lets_then : {first mid last : List ℕ → Option (List ℕ)} {a b c : Option KeysView} {u v w : WorldView} → LetsIn first mid a b u v → LetsIn mid last b c v w
    → LetsIn first last a c u w
lets_then {first} {mid} {last} {a} {b} {c} one two = record {
  kept = kept_then one.kept two.kept;
  join = record {
    added = λ named held.
        added_then (one.join.added named held)
        (added_as (λ e may. may_as one.kept.files named (number_in e.request) may)
        (two.join.added named (held_as {before = first} {now = mid} one.kept.files named b (one.kept.keys named held))));
  };
}

no_join_may : (contents : List ℕ → Option (List ℕ)) (named : Option (List ℕ)) (number : Option ℕ) → number ≡ None → MayJoinAs contents named number
no_join_may contents named number none = subst (λ (o : Option ℕ). MayJoinAs contents named o) (sym none) (at_none named)
  where
    at_none : (o : Option (List ℕ)) → MayJoinAs contents o None
    at_none None = tt
    at_none (Some name) = tt

-- Where nobody joins.
pub lets_nobody : (contents : List ℕ → Option (List ℕ)) {old new : Option KeysView} {v w : WorldView} → LetsNobodyIn old new v w → LetsIn contents contents old new v w
lets_nobody contents on = record {
  kept = kept_same (λ name. refl) on.keys;
  join = record { added = λ named held. added_as (λ e none. no_join_may contents named (number_in e.request) none) on.added };
}

pub lets_office : {F : Type 0} {k : Ghosts F} {a b : Office F k} (contents : List ℕ → Option (List ℕ)) → b ≡ a
    → LetsIn contents contents a.keys b.keys a.keeper.world b.keeper.world
lets_office contents same = lets_nobody contents (nobody_office same)

-- Where the steward joins.
stewards_number_may : (contents : List ℕ → Option (List ℕ)) (named : Option (List ℕ)) (number : Option ℕ) → number ≡ Some steward_number → MayJoinAs contents named number
stewards_number_may contents named number is = subst (λ (o : Option ℕ). MayJoinAs contents named o) (sym is) (at_stewards named)
  where
    at_stewards : (o : Option (List ℕ)) → MayJoinAs contents o (Some steward_number)
    at_stewards None = tt
    at_stewards (Some name) = inl refl

pub steward_let_in : {v w : WorldView} (h : List Entry) (mine : Option ℕ) → GoesOn (IsStewards h mine) v w → LetsStewardIn v w
steward_let_in h mine on = added_as go on.added
  where
    go : (e : Entry) → IsStewards h mine e → IsNoJoin e ⊎ (number_in e.request ≡ Some steward_number)
    go e (asks, inl report) = inl (no_join_reports e.request report)
    go e (asks, inr joins) = inr joins

pub lets_steward : (contents : List ℕ → Option (List ℕ)) {old new : Option KeysView} {v w : WorldView} → new ≡ old → LetsStewardIn v w
    → LetsIn contents contents old new v w
lets_steward contents same on = record { kept = kept_same (λ name. refl) same; join = record { added = λ named held. added_as (go named) on } }
  where
    go : (named : Option (List ℕ)) (e : Entry) → IsNoJoin e ⊎ (number_in e.request ≡ Some steward_number) → MayJoinByKeys contents named e
    go named e (inl none) = no_join_may contents named (number_in e.request) none
    go named e (inr is) = stewards_number_may contents named (number_in e.request) is

-- ---- The turn of a connection

second : (p q : Bool) → (p && q) ≡ true → q ≡ true
second true q is = is
second false q is = let clash : false ≡ true = is in cc

admitted_may : (contents : List ℕ → Option (List ℕ)) (name : List ℕ) (keys : KeysView) (key : Option (List ℕ)) (number : Option ℕ) → AreHeld contents name keys
    → (not (is_stewards_number number) && shows_key (Some keys) key number) ≡ true → MayJoinAs contents (Some name) number
admitted_may contents name keys key None held is = tt
admitted_may contents name keys None (Some client) held is =
    let clash : false ≡ true = second (not (is_stewards_number (Some client))) false is in cc
admitted_may contents name keys (Some digest) (Some client) held is =
    inr (record { keys = keys; held = held; digest = digest; has = second (not (is_stewards_number (Some client))) (has_key keys client digest) is })

entered_may : (contents : List ℕ → Option (List ℕ)) (named : Option (List ℕ)) (h : List Entry) (steward mine : Option ℕ) (keys : Option KeysView) (key : Option (List ℕ))
    → AreHeldFor contents named keys → (e : Entry) → MayEnter h steward mine keys key e → MayJoinByKeys contents named e
entered_may contents named h steward mine keys key held e (inl report) =
    no_join_may contents named (number_in e.request) (no_join_reports e.request report.1)
entered_may contents named h steward mine keys key held e (inr (asks, inl ends)) =
    no_join_may contents named (number_in e.request) (no_join_ends e.request ends)
entered_may contents None h steward mine keys key held e (inr (asks, inr is)) = tt
entered_may contents (Some name) h steward mine None key held e (inr (asks, inr is)) = absurd held
entered_may contents (Some name) h steward mine (Some keys) key held e (inr (asks, inr is)) = admitted_may contents name keys key (number_in e.request) held is

pub heard_lets : {before now : List ℕ → Option (List ℕ)} {old new : Option KeysView} {v w : WorldView} (h : List Entry) (steward mine : Option ℕ) (key : Option (List ℕ))
    → KeepsKeys before now old new → GoesOn (MayEnter h steward mine new key) v w → LetsIn before now old new v w
heard_lets {before} {now} {old} {new} h steward mine key kept on = record {
  kept = kept;
  join = record { added = λ named held. added_as (entered_may before named h steward mine new key (kept.keys named held)) on.added };
}

-- ---- At the top

pub join_then : {contents : List ℕ → Option (List ℕ)} {a b : Option KeysView} {u v w : WorldView} → LetsIn contents contents a b u v → JoinByKeys contents b v w
    → JoinByKeys contents a u w
join_then one two = record { added = λ named held. added_then (one.join.added named held) (two.added named (one.kept.keys named held)) }

pub join_same : {contents : List ℕ → Option (List ℕ)} {keys : Option KeysView} {v w : WorldView} → w ≡ v → JoinByKeys contents keys v w
join_same {contents} {keys} {v} same =
    record { added = λ named held. subst (λ (x : WorldView). AreAdded (MayJoinByKeys contents named) v.history x.history) (sym same) AreAdded.none }

-- The keys that were read are those of the file.
pub keys_held : (contents : List ℕ → Option (List ℕ)) (named : Option (List ℕ)) (keys : Option KeysView) → AreKeysFor contents named keys
    → AreHeldFor contents named keys
keys_held contents None None are = are
keys_held contents None (Some keys) are = are
keys_held contents (Some name) None are = are
keys_held contents (Some name) (Some keys) are = record { file = are.file; text = keys.bytes; whole = are.all; read = are.rows }

pub are_read : {contents mid now : List ℕ → Option (List ℕ)} (named : Option (List ℕ)) (keys staff : Option KeysView) → ((name : List ℕ) → mid name ≡ contents name)
    → ((name : List ℕ) → now name ≡ mid name) → AreKeysFor mid named keys → staff ≡ keys → AreRead contents now named staff
are_read {contents} {mid} {now} named keys staff first next are same = record {
  files = λ name. next name ∙ first name;
  held = subst (AreHeldFor contents named) (sym same)
      (held_as {before = mid} {now = contents} (λ name. sym (first name)) named keys (keys_held mid named keys are));
}

pub held_now : {contents now : List ℕ → Option (List ℕ)} (named : Option (List ℕ)) (keys : Option KeysView) → AreRead contents now named keys
    → AreHeldFor now named keys
held_now {contents} {now} named keys read = held_as {before = contents} {now = now} read.files named keys read.held

-- The files had the same before.
module _ {contents now : List ℕ → Option (List ℕ)} (named : Option (List ℕ)) (files : (name : List ℕ) → now name ≡ contents name) where
  may_before : (e : Entry) → MayJoinByKeys now named e → MayJoinByKeys contents named e
  may_before e may = may_as files named (number_in e.request) may

  pub stopped_before : {F : Type 0} (disk : F → Disk) (is_honest : F → Type 0) (first : KeeperView F) (before after : Traffic) (name : List ℕ) (stopped : Stopped)
      → HasStopped disk is_honest (MayJoinByKeys now named) first before after name stopped → HasStopped disk is_honest (MayJoinByKeys contents named) first before after name stopped
  stopped_before disk is_honest first before after name stopped was = record {
    keeper = was.keeper;
    goes = was.goes;
    joins = added_as may_before was.joins;
    done = was.done;
    sent = was.sent;
    begun = was.begun;
    asked = was.asked;
    folder = was.folder;
    entries = was.entries;
    commit = was.commit;
  }

  pub broke_before : (before after : Traffic) (first : WorldView) → HostBreaksOff (MayJoinByKeys now named) before after first → HostBreaksOff (MayJoinByKeys contents named) before after first
  broke_before before after first broke = record {
    last = broke.last;
    goes = broke.goes;
    joins = added_as may_before broke.joins;
    legal = broke.legal;
    order = broke.order;
    sent = broke.sent;
    begun = broke.begun;
  }
