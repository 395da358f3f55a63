-- What is written to connections is what they handed over.
use Rattle.std.proofs.Common.{◌≡◌, ◌≢◌, ◌⊎◌, inl, inr, ℕ, suc, ◌+◌, ◌<◌, ◌≤◌, false, true, nat_eq, List, [], ◌∷◌, ◌++◌, length, take, drop, Option, Some, None, refl, sym, ap, ◌∙◌, subst, arith, append_assoc, eq-eqb, ne_eqb}
use Rattle.std.specs.Prelude.{Result, Ok, Err, MatchOption, OnErr, OnOk, is_err}
use Rattle.std.proofs.lemmas.Bool.{cases_lt, cond-false}
use Rattle.std.proofs.lemmas.List.{append-nil, take-append-drop}
use Rattle.sv_journal.specs.declared.entry.Entry.{Entry}
use Rattle.sv_living.specs.Sessions.{AreInOrder}
use Rattle.sv_living.specs.World.{WorldView}
use Rattle.sv_keeper.specs.Views.{KeeperView}
use Rattle.sv_peer.specs.View.{PeerView, IsInStep, after_sent, new_peer}
use Rattle.sv_ports.specs.Traffic.{Traffic, Accepts, ReadsInput, bytes_of}
use Rattle.sv_ports.specs.declared.ports.Accepted.{Accepted}
use Rattle.sv_ports.specs.declared.ports.Accepted.TheVariants as accepts
use Rattle.sv_ports.specs.declared.ports.PortRead.{PortRead}
use Rattle.sv_ports.specs.declared.ports.PortRead.TheVariants as reads
use Rattle.sv_ports.specs.declared.numbered.NumberedPlace.{NumberedPlace}
use Rattle.sv_ports.specs.Numbered.{IsAbove, item_of, with_item, without}
use Rattle.sv_ports.proofs.Bytes.{bytes-more, own_more}
use Rattle.sv_office.specs.Entering.{GoesOn}
use Rattle.sv_office.specs.Guests.{OnlyHeard}
use Rattle.sv_office.specs.Telling.{IsServedGuest}
use Rattle.sv_office.specs.declared.guest.Guest.{Guest}
use Rattle.sv_office.specs.declared.guest.Standing.TheVariants as standing
use Rattle.sv_office.proofs.Adding.{goes_as, goes_nowhere, goes_then}
use Rattle.sv_office.proofs.Served.{served_stays}
use Rattle.sv_host.specs.Rooms.{AllWereWritten, AnyEntry, AreServed, AreWritten, AreWrittenBut, Continues, HasGone, IsNew, IsWritten, KeepsOut, LeftInput, Sends, WasWritten, WereWritten, WroteNothing}
use Rattle.sv_host.proofs.Guests.{IsPart, emptied, fewer, never, one, put_at}
use Rattle.sv_host.proofs.Places.{kept_number, left_item, number_of_item, other_item, own_item, pushed_item, pushed_none, pushed_own, put_item, same_or_not}

pub on_ok : {T E P : Type 0} (r : Result T E) → P → OnOk r P
on_ok (Ok x) p = p
on_ok (Err e) p = tt

pub on_err : {T E P : Type 0} (r : Result T E) → P → OnErr r P
on_err (Ok x) p = tt
on_err (Err e) p = p

pub then_ok : {T E P Q : Type 0} (r : Result T E) → (P → Q) → OnOk r P → OnOk r Q
then_ok (Ok x) f p = f p
then_ok (Err e) f p = tt

-- ---- One connection

other_more : (n m : ℕ) (ps : List (ℕ × List ℕ)) (bytes : List ℕ) → m ≢ n → bytes_of m (ps ++ (n, bytes) ∷ []) ≡ bytes_of m ps
other_more n m ps bytes differ = bytes-more m n ps bytes ∙ cond-false (nat_eq m n) (bytes_of m ps ++ bytes) (bytes_of m ps) (ne_eqb m n differ)

pub sends_none : (n : ℕ) (peer : PeerView) (told : Traffic) → Sends n peer peer told told
sends_none n peer told = record { more = []; sent = sym (append-nil peer.sent); left = refl; own = sym (append-nil (bytes_of n told.written)); others = λ m differ. refl; rest = refl }

-- The front of what waits is written, and so handed over.
pub sends_more : (n count : ℕ) (old mid new : PeerView) (before now after : Traffic) (piece : List ℕ) → piece ≡ mid.output
    → after ≡ record now { written = now.written ++ (n, take count piece) ∷ [] } → new ≡ after_sent mid count → Sends n old mid before now → Sends n old new before after
sends_more n count old mid new before now after piece whole is handed w =
    subst (λ (t : Traffic). Sends n old new before t) (sym is)
    (subst (λ (xs : List ℕ). Sends n old new before (later xs)) (sym whole) (subst (λ (p : PeerView). Sends n old p before (later mid.output)) (sym handed) gone))
  where
    later : List ℕ → Traffic
    later xs = record now { written = now.written ++ (n, take count xs) ∷ [] }

    front : List ℕ
    front = take count mid.output

    gone : Sends n old (after_sent mid count) before (later mid.output)
    gone = record {
      more = w.more ++ front;
      sent = ap (λ (xs : List ℕ). xs ++ front) w.sent ∙ append_assoc old.sent w.more front;
      left = w.left ∙ ap (λ (xs : List ℕ). w.more ++ xs) (sym (take-append-drop count mid.output)) ∙ sym (append_assoc w.more front (drop count mid.output));
      own = own_more n now.written front ∙ ap (λ (xs : List ℕ). xs ++ front) w.own ∙ append_assoc (bytes_of n before.written) w.more front;
      others = λ m differ. other_more n m now.written front differ ∙ w.others m differ;
      rest = ap (λ (t : Traffic). record t { written = now.written ++ (n, front) ∷ [] }) w.rest;
    }

-- Nothing was written.
pub sends_still : (n : ℕ) (old mid new : PeerView) (before now after : Traffic) → after ≡ now → new ≡ mid → Sends n old mid before now → Sends n old new before after
sends_still n old mid new before now after is same w =
    subst (λ (t : Traffic). Sends n old new before t) (sym is) (subst (λ (p : PeerView). Sends n old p before now) (sym same) w)

-- ---- Who is gone

-- One that never was there.
abbrev nobody : Guest
nobody = record {
  peer = new_peer;
  session = None;
  key = None;
  held = None;
  is_listed = false;
  heard = 0;
  standing = standing.Open;
  has_more = false;
  had_turn = false;
  has_spoken = false;
  client = None;
}

nothing_gone : (v : WorldView) (told : Traffic) (n : ℕ) → bytes_of n told.written ≡ [] → HasGone v told n
nothing_gone v told n nothing = record {
  was = record { guest = nobody; served = inl refl; in_step = (refl, refl); sent = nothing };
  over = refl;
}

gone_as : {v : WorldView} {before now : Traffic} (n : ℕ) → bytes_of n now.written ≡ bytes_of n before.written → HasGone v before n → HasGone v now n
gone_as n same g = record {
  was = record { guest = g.was.guest; served = g.was.served; in_step = g.was.in_step; sent = same ∙ g.was.sent };
  over = g.over;
}

-- It stays what its session's entries say.
gone_stays : {may : Entry → Type 0} {v w : WorldView} {told : Traffic} (n : ℕ) → AreInOrder w.history → GoesOn may v w → HasGone v told n → HasGone w told n
gone_stays n order on g = record {
  was = record {
    guest = g.was.guest;
    served = served_stays g.was.guest order on (λ e s is m same. never (sym g.over ∙ is)) g.was.served;
    in_step = g.was.in_step;
    sent = g.was.sent;
  };
  over = g.over;
}

-- ---- All

none_at : (n : ℕ) (ps : List (NumberedPlace Guest)) → item_of n (with_item n None ps) ≡ None
none_at n ps = go (own_item n None ps)
  where
    go : (item_of n (with_item n None ps) ≡ None) ⊎ (item_of n (with_item n None ps) ≡ None) → item_of n (with_item n None ps) ≡ None
    go (inl e) = e
    go (inr e) = e

not_left : (n m : ℕ) → nat_eq m n ≡ false → Some n ≢ Some m
not_left n m differ same = let clash : true ≡ false = sym (eq-eqb m n (sym (one same))) ∙ differ in cc

no_left : (m : ℕ) → None ≢ Some m
no_left m same = never same

-- Whoever lies here lies there too, and who lies here no more is left out, or gone.
part_written : {v : WorldView} {told : Traffic} {but also : Option ℕ} {some all : List (NumberedPlace Guest)} → IsPart some all
    → ((m : ℕ) → also ≢ Some m → m < told.next → item_of m some ≡ None → HasGone v told m) → AreWrittenBut but v told all → AreWrittenBut also v told some
part_written within gone are = record {
  sent = λ n guest at. are.sent n guest (within n guest at);
  in_step = λ n guest at. are.in_step n guest (within n guest at);
  known = λ n guest at. are.known n guest (within n guest at);
  gone = gone;
  unused = are.unused;
}

module _ {v : WorldView} {told : Traffic} (n : ℕ) (ps qs : List (NumberedPlace Guest)) where
  -- There is none.
  pub written_none : item_of n ps ≡ None → qs ≡ with_item n None ps → AreWritten v told ps → AreWritten v told qs
  written_none none left are =
      subst (λ (xs : List (NumberedPlace Guest)). AreWritten v told xs) (sym left)
      (part_written (emptied n ps) (λ m differ low out. are.gone m (no_left m) low (before m out (same_or_not m n))) are)
    where
      before : (m : ℕ) → item_of m (with_item n None ps) ≡ None → (m ≡ n) ⊎ (nat_eq m n ≡ false) → item_of m ps ≡ None
      before m out (inl same) = ap (λ (k : ℕ). item_of k ps) same ∙ none
      before m out (inr differ) = sym (other_item n m None ps differ) ∙ out

  -- One is taken out.
  pub written_out : (guest : Guest) → item_of n ps ≡ Some guest → qs ≡ with_item n None ps → AreWritten v told ps → IsWritten v told qs n guest
  written_out guest is left are = subst (λ (xs : List (NumberedPlace Guest)). IsWritten v told xs n guest) (sym left) (record {
    others = part_written (emptied n ps) (λ m differ low out. gone m differ low out (same_or_not m n)) are;
    alone = none_at n ps;
    place = kept_number n None ps ∙ number_of_item n ps guest is;
    sent = are.sent n guest is;
    known = are.known n guest is;
  })
    where
      gone : (m : ℕ) → Some n ≢ Some m → m < told.next → item_of m (with_item n None ps) ≡ None → (m ≡ n) ⊎ (nat_eq m n ≡ false) → HasGone v told m
      gone m differ low out (inl same) = absurd (differ (ap Some (sym same)))
      gone m differ low out (inr unlike) = are.gone m (no_left m) low (sym (other_item n m None ps unlike) ∙ out)

  pub written_took : (o : Option Guest) → o ≡ item_of n ps → qs ≡ with_item n None ps → AreWritten v told ps → MatchOption o (AreWritten v told qs) (IsWritten v told qs n)
  written_took None is left are = written_none (sym is) left are
  written_took (Some guest) is left are = written_out guest (sym is) left are

  -- It is put back.
  pub written_in : (guest : Guest) → qs ≡ with_item n (Some guest) ps → IsInStep guest.peer → IsWritten v told ps n guest → AreWritten v told qs
  written_in guest put steps out = subst (λ (xs : List (NumberedPlace Guest)). AreWritten v told xs) (sym put) (record {
    sent = λ m b at. sent m b (put_at n guest ps m b at);
    in_step = λ m b at. in_step m b (put_at n guest ps m b at);
    known = λ m b at. known m b (put_at n guest ps m b at);
    gone = λ m differ low none. gone m low none (same_or_not m n);
    unused = out.others.unused;
  })
    where
      sent : (m : ℕ) (b : Guest) → ((m ≡ n) × (b ≡ guest)) ⊎ (item_of m ps ≡ Some b) → bytes_of m told.written ≡ b.peer.sent
      sent m b (inl (same, is)) = ap (λ (k : ℕ). bytes_of k told.written) same ∙ out.sent ∙ ap (λ (g : Guest). g.peer.sent) (sym is)
      sent m b (inr there) = out.others.sent m b there

      in_step : (m : ℕ) (b : Guest) → ((m ≡ n) × (b ≡ guest)) ⊎ (item_of m ps ≡ Some b) → IsInStep b.peer
      in_step m b (inl (same, is)) = subst (λ (g : Guest). IsInStep g.peer) (sym is) steps
      in_step m b (inr there) = out.others.in_step m b there

      known : (m : ℕ) (b : Guest) → ((m ≡ n) × (b ≡ guest)) ⊎ (item_of m ps ≡ Some b) → m < told.next
      known m b (inl (same, is)) = subst (λ (k : ℕ). k < told.next) (sym same) out.known
      known m b (inr there) = out.others.known m b there

      gone : (m : ℕ) → m < told.next → item_of m (with_item n (Some guest) ps) ≡ None → (m ≡ n) ⊎ (nat_eq m n ≡ false) → HasGone v told m
      gone m low none (inl same) =
          never (sym (subst (λ (k : ℕ). item_of k (with_item n (Some guest) ps) ≡ None) same none) ∙ put_item n (Some guest) ps out.place)
      gone m low none (inr unlike) = out.others.gone m (not_left n m unlike) low (sym (other_item n m (Some guest) ps unlike) ∙ none)

  -- It is gone for good.
  pub written_gone : (guest : Guest) → qs ≡ without n ps → guest.session ≡ None → IsServedGuest v guest → IsInStep guest.peer → IsWritten v told ps n guest
      → AreWritten v told qs
  written_gone guest left over served steps out = subst (λ (xs : List (NumberedPlace Guest)). AreWritten v told xs) (sym left)
      (part_written (fewer n ps) (λ m differ low none. gone m low none (same_or_not m n)) out.others)
    where
      own : HasGone v told n
      own = record { was = record { guest = guest; served = served; in_step = steps; sent = out.sent }; over = over }

      gone : (m : ℕ) → m < told.next → item_of m (without n ps) ≡ None → (m ≡ n) ⊎ (nat_eq m n ≡ false) → HasGone v told m
      gone m low none (inl same) = subst (λ (k : ℕ). HasGone v told k) (sym same) own
      gone m low none (inr unlike) = out.others.gone m (not_left n m unlike) low (sym (left_item n m ps unlike) ∙ none)

-- It handed over just what was written to it.
pub written_to : {v : WorldView} (n : ℕ) (ps : List (NumberedPlace Guest)) (old new : Guest) (before now : Traffic) → Sends n old.peer new.peer before now
    → IsWritten v before ps n old → IsWritten v now ps n new
written_to n ps old new before now w out = record {
  others = record {
    sent = λ m b at. w.others m (differ m b at) ∙ out.others.sent m b at;
    in_step = out.others.in_step;
    known = λ m b at. subst (λ (k : ℕ). m < k) (sym next) (out.others.known m b at);
    gone = λ m unlike low none.
        gone_as m (w.others m (λ same. unlike (ap Some (sym same)))) (out.others.gone m unlike (subst (λ (k : ℕ). m < k) next low) none);
    unused = λ m le. w.others m (later m le) ∙ out.others.unused m (subst (λ (k : ℕ). k ≤ m) next le);
  };
  alone = out.alone;
  place = out.place;
  sent = w.own ∙ ap (λ (xs : List ℕ). xs ++ w.more) out.sent ∙ sym w.sent;
  known = subst (λ (k : ℕ). n < k) (sym next) out.known;
}
  where
    next : now.next ≡ before.next
    next = ap (λ (t : Traffic). t.next) w.rest

    differ : (m : ℕ) (b : Guest) → item_of m ps ≡ Some b → m ≢ n
    differ m b at same = never (sym (subst (λ (k : ℕ). item_of k ps ≡ None) (sym same) out.alone) ∙ at)

    later : (m : ℕ) → now.next ≤ m → m ≢ n
    later m le same = let known : n < before.next = out.known in omega (arith, known, le, next, same)

-- Its bytes are as they were.
pub written_as : {v : WorldView} (n : ℕ) (ps : List (NumberedPlace Guest)) (old new : Guest) (told : Traffic) → new.peer.sent ≡ old.peer.sent → IsWritten v told ps n old
    → IsWritten v told ps n new
written_as n ps old new told same out = record { others = out.others; alone = out.alone; place = out.place; sent = out.sent ∙ sym same; known = out.known }

-- Each stays as it was.
pub out_as_written : (v : WorldView) (ps qs : List (NumberedPlace Guest)) (old new : Guest) → qs ≡ ps → new.peer.sent ≡ old.peer.sent → KeepsOut v ps old v qs new
out_as_written v ps qs old new same sent told n out = subst (λ (xs : List (NumberedPlace Guest)). IsWritten v told xs n new) (sym same) (written_as n ps old new told sent out)

-- Nothing was written to any, and no number was given.
pub written_still : {but : Option ℕ} {v : WorldView} (ps : List (NumberedPlace Guest)) (before now : Traffic) → now.written ≡ before.written → now.next ≡ before.next
    → AreWrittenBut but v before ps → AreWrittenBut but v now ps
written_still ps before now same next are = record {
  sent = λ n guest at. ap (bytes_of n) same ∙ are.sent n guest at;
  in_step = are.in_step;
  known = λ n guest at. subst (λ (k : ℕ). n < k) (sym next) (are.known n guest at);
  gone = λ n differ low none. gone_as n (ap (bytes_of n) same) (are.gone n differ (subst (λ (k : ℕ). n < k) next low) none);
  unused = λ n le. ap (bytes_of n) same ∙ are.unused n (subst (λ (k : ℕ). k ≤ n) next le);
}

pub written_read : {v : WorldView} (ps : List (NumberedPlace Guest)) (before now : Traffic) (into : List ℕ) (r : PortRead) → ReadsInput before into r now → AreWritten v before ps
    → AreWritten v now ps
written_read ps before now into (reads.Got n) (some, few, is) are = written_still ps before now (ap (λ (t : Traffic). t.written) is) (ap (λ (t : Traffic). t.next) is) are
written_read ps before now into reads.NotYet is are = written_still ps before now (ap (λ (t : Traffic). t.written) is) (ap (λ (t : Traffic). t.next) is) are
written_read ps before now into reads.Ended is are = written_still ps before now (ap (λ (t : Traffic). t.written) is) (ap (λ (t : Traffic). t.next) is) are
written_read ps before now into reads.Failed is are = written_still ps before now (ap (λ (t : Traffic). t.written) is) (ap (λ (t : Traffic). t.next) is) are

module _ {may : Entry → Type 0} {v w : WorldView} (order : AreInOrder w.history) (on : GoesOn may v w) where
  -- The world went on.
  pub written_later : {but : Option ℕ} {told : Traffic} (ps : List (NumberedPlace Guest)) → AreWrittenBut but v told ps → AreWrittenBut but w told ps
  written_later ps are = record {
    sent = are.sent;
    in_step = are.in_step;
    known = are.known;
    gone = λ n differ low none. gone_stays n order on (are.gone n differ low none);
    unused = are.unused;
  }

  pub out_later : {told : Traffic} (n : ℕ) (ps : List (NumberedPlace Guest)) (old new : Guest) → new.peer.sent ≡ old.peer.sent → IsWritten v told ps n old → IsWritten w told ps n new
  out_later n ps old new same out = record {
    others = written_later ps out.others;
    alone = out.alone;
    place = out.place;
    sent = out.sent ∙ sym same;
    known = out.known;
  }

pub out_still : {v : WorldView} (n : ℕ) (ps : List (NumberedPlace Guest)) (guest : Guest) (before now : Traffic) → WroteNothing before now → IsWritten v before ps n guest
    → IsWritten v now ps n guest
out_still n ps guest before now still out = record {
  others = written_still ps before now still.written still.next out.others;
  alone = out.alone;
  place = out.place;
  sent = ap (bytes_of n) still.written ∙ out.sent;
  known = subst (λ (k : ℕ). n < k) (sym still.next) out.known;
}

-- No input was read.
pub left_as : {old new : Traffic} {next : ℕ} {written heard : List (ℕ × List ℕ)} → new ≡ record old { next = next; written = written; heard = heard } → LeftInput old new
left_as is = record { input = ap (λ (t : Traffic). t.input) is; ended = ap (λ (t : Traffic). t.input_ended) is }

pub left_equal : {old new : Traffic} → new ≡ old → LeftInput old new
left_equal is = record { input = ap (λ (t : Traffic). t.input) is; ended = ap (λ (t : Traffic). t.input_ended) is }

pub left_same : (told : Traffic) → LeftInput told told
left_same told = record { input = refl; ended = refl }

pub left_then : {first mid last : Traffic} → LeftInput first mid → LeftInput mid last → LeftInput first last
left_then one two = record { input = two.input ∙ one.input; ended = two.ended ∙ one.ended }

pub left_accepted : (before now : Traffic) (a : Accepted) → Accepts before a now → LeftInput before now
left_accepted before now (accepts.One n) (above, is) = left_as is
left_accepted before now accepts.NotYet is = left_as is
left_accepted before now accepts.Failed is = left_as is

pub heard_nothing : (n : ℕ) (before now : Traffic) → OnlyHeard n before now → WroteNothing before now
heard_nothing n before now heard = record { written = ap (λ (t : Traffic). t.written) heard.rest; next = ap (λ (t : Traffic). t.next) heard.rest; left = left_as heard.rest }

-- ---- A new one

pub accepted_new : {v : WorldView} (ps : List (NumberedPlace Guest)) (before now : Traffic) (n : ℕ) → Accepts before (accepts.One n) now → AreWritten v before ps → IsNew v now ps n
accepted_new {v} ps before now n (above, is) are = subst (λ (t : Traffic). IsNew v t ps n) (sym is) (record {
  others = record {
    sent = are.sent;
    in_step = are.in_step;
    known = λ m guest at. let known : m < before.next = are.known m guest at in omega (arith, known, above);
    gone = λ m differ low none. gone m none (cases_lt m before.next);
    unused = λ m le. are.unused m (omega (arith, le, above));
  };
  nothing = are.unused n above;
  known = omega arith;
})
  where
    given : Traffic
    given = record before { next = n + 1 }

    gone : (m : ℕ) → item_of m ps ≡ None → (m < before.next) ⊎ (before.next ≤ m) → HasGone v (record before { next = n + 1 }) m
    gone m none (inl low) = gone_as m refl (are.gone m (no_left m) low none)
    gone m none (inr high) = nothing_gone v (record before { next = n + 1 }) m (are.unused m high)

pub new_written : {E : Type 0} {v : WorldView} (told : Traffic) (n : ℕ) (guest : Guest) (ps qs : List (NumberedPlace Guest)) (r : Result Unit E) → is_err r ≡ false
    → OnOk r (qs ≡ ps ++ record { number = n; item = Some guest } ∷ []) → OnOk r (IsAbove n ps) → guest.peer ≡ new_peer → IsNew v told ps n → AreWritten v told qs
new_written told n guest ps qs (Err e) went is above same new = let clash : true ≡ false = went in cc
new_written {v = v} told n guest ps qs (Ok u) went is above same new = subst (λ (xs : List (NumberedPlace Guest)). AreWritten v told xs) (sym is) (record {
  sent = λ m b at. sent m b (pushed_item m place ps b at);
  in_step = λ m b at. in_step m b (pushed_item m place ps b at);
  known = λ m b at. known m b (pushed_item m place ps b at);
  gone = λ m differ low none. gone m low none (same_or_not m n);
  unused = new.others.unused;
})
  where
    place : NumberedPlace Guest
    place = record { number = n; item = Some guest }

    sent : (m : ℕ) (b : Guest) → (item_of m ps ≡ Some b) ⊎ ((m ≡ n) × (Some guest ≡ Some b)) → bytes_of m told.written ≡ b.peer.sent
    sent m b (inl there) = new.others.sent m b there
    sent m b (inr (here, is)) =
        ap (λ (k : ℕ). bytes_of k told.written) here ∙ new.nothing ∙ sym (ap (λ (p : PeerView). p.sent) same) ∙ ap (λ (g : Guest). g.peer.sent) (one is)

    in_step : (m : ℕ) (b : Guest) → (item_of m ps ≡ Some b) ⊎ ((m ≡ n) × (Some guest ≡ Some b)) → IsInStep b.peer
    in_step m b (inl there) = new.others.in_step m b there
    in_step m b (inr (here, is)) = subst (λ (g : Guest). IsInStep g.peer) (one is) (subst IsInStep (sym same) (refl, refl))

    known : (m : ℕ) (b : Guest) → (item_of m ps ≡ Some b) ⊎ ((m ≡ n) × (Some guest ≡ Some b)) → m < told.next
    known m b (inl there) = new.others.known m b there
    known m b (inr (here, is)) = subst (λ (k : ℕ). k < told.next) (sym here) new.known

    gone : (m : ℕ) → m < told.next → item_of m (ps ++ record { number = n; item = Some guest } ∷ []) ≡ None → (m ≡ n) ⊎ (nat_eq m n ≡ false) → HasGone v told m
    gone m low none (inl here) =
        never (sym (subst (λ (k : ℕ). item_of k (ps ++ record { number = n; item = Some guest } ∷ []) ≡ None) here none) ∙ pushed_own n (Some guest) ps above)
    gone m low none (inr unlike) = new.others.gone m (not_left n m unlike) low (pushed_none m n (Some guest) ps unlike none)

-- It was closed in place.
pub closed_new : {v : WorldView} (n : ℕ) (ps qs : List (NumberedPlace Guest)) (before now : Traffic) → now ≡ before → qs ≡ ps → IsNew v before ps n → AreWritten v now qs
closed_new {v} n ps qs before now still same new =
    subst (λ (t : Traffic). AreWritten v t qs) (sym still) (subst (λ (xs : List (NumberedPlace Guest)). AreWritten v before xs) (sym same) (record {
      sent = new.others.sent;
      in_step = new.others.in_step;
      known = new.others.known;
      gone = λ m differ low none. gone m low none (same_or_not m n);
      unused = new.others.unused;
    }))
  where
    gone : (m : ℕ) → m < before.next → item_of m ps ≡ None → (m ≡ n) ⊎ (nat_eq m n ≡ false) → HasGone v before m
    gone m low none (inl here) = nothing_gone v before m (ap (λ (k : ℕ). bytes_of k before.written) here ∙ new.nothing)
    gone m low none (inr unlike) = new.others.gone m (not_left n m unlike) low none

pub closed_written : {v : WorldView} (ps : List (NumberedPlace Guest)) (before now : Traffic) → now ≡ before → AreWritten v before ps → AreWritten v now ps
closed_written {v} ps before now still are = subst (λ (t : Traffic). AreWritten v t ps) (sym still) are

pub unpushed : {E : Type 0} (n : ℕ) (guest : Guest) (ps qs : List (NumberedPlace Guest)) (r : Result Unit E) → is_err r ≡ true → OnErr r (qs ≡ ps) → qs ≡ ps
unpushed n guest ps qs (Ok u) went is = let clash : false ≡ true = went in cc
unpushed n guest ps qs (Err e) went is = is

-- ---- What was written, at any moment

module _ {v : WorldView} {told : Traffic} {steward : Option ℕ} (guests : List (NumberedPlace Guest)) (served : AreServed v steward guests) (are : AreWritten v told guests) where
  pub all_written : AllWereWritten v told
  all_written = record {
    each = λ n low. go n low (item_of n guests) refl;
    distinct = λ n m s low also has same. one_has n m s (at_own n s low (item_of n guests) refl has) (at_own m s also (item_of m guests) refl same);
    unused = are.unused;
  }
    where
      go : (n : ℕ) → n < told.next → (o : Option Guest) → item_of n guests ≡ o → WasWritten v told n
      go n low (Some guest) at = record { guest = guest; served = served.served n guest at; in_step = are.in_step n guest at; sent = are.sent n guest at }
      go n low None at = (are.gone n (no_left n) low at).was

      at_own : (n s : ℕ) (low : n < told.next) (o : Option Guest) (at : item_of n guests ≡ o) → (go n low o at).guest.session ≡ Some s
          → (guest : Guest) × (item_of n guests ≡ Some guest) × (guest.session ≡ Some s)
      at_own n s low (Some guest) at has = (guest, at, has)
      at_own n s low None at has = never (sym (are.gone n (no_left n) low at).over ∙ has)

      one_has : (n m s : ℕ) → ((a : Guest) × (item_of n guests ≡ Some a) × (a.session ≡ Some s)) → ((b : Guest) × (item_of m guests ≡ Some b) × (b.session ≡ Some s)) → n ≡ m
      one_has n m s (a, at, has) (b, to, same) = served.distinct n m s a b at to has same

  pub were_written : {may : Entry → Type 0} → WereWritten may told v v
  were_written = record { before = v; since = goes_nowhere refl; written = all_written; goes = goes_nowhere refl }

pub all_still : {v : WorldView} {before now : Traffic} → WroteNothing before now → AllWereWritten v before → AllWereWritten v now
all_still {v} {before} {now} still all = record {
  each = λ n low. as_was n (all.each n (subst (λ (k : ℕ). n < k) still.next low));
  distinct = λ n m s low also has same. all.distinct n m s (subst (λ (k : ℕ). n < k) still.next low) (subst (λ (k : ℕ). m < k) still.next also) has same;
  unused = λ n le. ap (bytes_of n) still.written ∙ all.unused n (subst (λ (k : ℕ). k ≤ n) still.next le);
}
  where
    as_was : (n : ℕ) → WasWritten v before n → WasWritten v now n
    as_was n w = record { guest = w.guest; served = w.served; in_step = w.in_step; sent = ap (bytes_of n) still.written ∙ w.sent }

pub were_still : {may : Entry → Type 0} {before now : Traffic} {v w : WorldView} → WroteNothing before now → WereWritten may before v w → WereWritten may now v w
were_still still were = record { before = were.before; since = were.since; written = all_still still were.written; goes = were.goes }

pub were_later : {may : Entry → Type 0} {told : Traffic} {u v w : WorldView} → GoesOn may v w → WereWritten may told u v → WereWritten may told u w
were_later on were = record { before = were.before; since = were.since; written = were.written; goes = goes_then were.goes on }

pub were_since : {may : Entry → Type 0} {told : Traffic} {u v w : WorldView} → Continues u v → WereWritten may told v w → WereWritten may told u w
were_since on were = record { before = were.before; since = goes_then on were.since; written = were.written; goes = were.goes }

-- It broke off: from here on nothing was written.
pub broke_off : {v w : WorldView} {steward : Option ℕ} {before now : Traffic} (guests : List (NumberedPlace Guest)) → AreServed v steward guests → AreWritten v before guests
    → WroteNothing before now → Continues v w → WereWritten AnyEntry now v w
broke_off guests served are still on = were_later on (were_still still (were_written guests served are))

-- ---- A world that goes on

pub continues : {may : Entry → Type 0} {v w : WorldView} → GoesOn may v w → Continues v w
continues on = goes_as (λ e m. tt) on

pub continues_then : {u v w : WorldView} → Continues u v → Continues v w → Continues u w
continues_then first next = goes_then first next

pub continues_same : {v w : WorldView} → w ≡ v → Continues v w
continues_same same = goes_nowhere same

pub continues_kept : {F : Type 0} {a b : KeeperView F} → b ≡ a → Continues a.world b.world
continues_kept {F} same = goes_nowhere (ap (λ (k : KeeperView F). k.world) same)

pub wrote_same : {old new : Traffic} → new ≡ old → WroteNothing old new
wrote_same same = record { written = ap (λ (t : Traffic). t.written) same; next = ap (λ (t : Traffic). t.next) same; left = left_as same }

pub wrote_then : {first mid last : Traffic} → WroteNothing first mid → WroteNothing mid last → WroteNothing first last
wrote_then one two = record { written = two.written ∙ one.written; next = two.next ∙ one.next; left = left_then one.left two.left }
