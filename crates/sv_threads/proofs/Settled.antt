-- Pairs that are settled one after the other.
use Rattle.std.proofs.Common.{◌≡◌, ℕ, suc, ◌+◌, ◌<◌, Bool, true, false, List, [], ◌∷◌, ◌++◌, length, refl, sym, ap, subst, ◌∙◌, arith, append_assoc, append-nil, length-append, true≢false}
use Rattle.std.specs.List.{AllByRecursion, AllZip}
use Rattle.sv_link.specs.Ends.{Told}
use Rattle.sv_link.specs.Nets.{Transcript, BothEnds, BothArrived, AreTwoEnds}
use Rattle.sv_link.specs.declared.nets.Settle.{Settle}
use Rattle.sv_link.specs.declared.nets.Settle.TheVariants as settle
use Rattle.sv_threads.specs.declared.gathering.ClientEnd.{ClientEnd}
use Rattle.sv_threads.specs.Pairs.{Pairing, HasDiffered}
use Rattle.sv_threads.specs.Settling.{AreCalm, IsSince, SettledEach}

is_failed : settle.Failed ≡ settle.Matched → ⊥
is_failed e = subst IsFailed e tt
  where
    IsFailed : Settle → Type 0
    IsFailed settle.Failed = Unit {0}
    IsFailed settle.Matched = ⊥

all_more : {X : Type 0} (P : X → Type 0) (xs : List X) (x : X) → AllByRecursion P xs → P x → AllByRecursion P (xs ++ x ∷ [])
all_more P [] x all one = (one, tt)
all_more P (y ∷ xs) x all one = (all.0, all_more P xs x all.1 one)

module _ {E : Type 0} (told : E → Told) (calm : E → Type 0) (net_calm : Type 0) (servers : List E) (clients : List (ClientEnd E)) where
  -- the pairs before these were settled
  pub record SettledSoFar (rest_servers : List E) (rest_clients : List (ClientEnd E)) (all_matched : Bool) (old new : Pairing) : Type 0 where
    pub transcripts : List Transcript
    pub others : List BothEnds
    pub settled : new.settled ≡ old.settled ++ transcripts
    pub unmatched : new.unmatched ≡ old.unmatched ++ others
    pub count : (length transcripts + length others) + length rest_servers ≡ length servers
    pub made : new.made ≡ old.made
    pub owed : old.owed ≡ new.owed + (length transcripts + length others)
    pub matched : all_matched ≡ true → others ≡ []
    pub failed : all_matched ≡ false → 0 < length others
    pub each : net_calm → AllZip (AreCalm calm) servers clients → (since : ℕ) → AllZip (IsSince told since) servers clients →
        AllByRecursion (HasDiffered since old.made) others × AllZip (AreCalm calm) rest_servers rest_clients × AllZip (IsSince told since) rest_servers rest_clients

  pub none_settled : (old : Pairing) → SettledSoFar servers clients true old old
  none_settled old =
      record {
        transcripts = [];
        others = [];
        settled = sym (append-nil old.settled);
        unmatched = sym (append-nil old.unmatched);
        count = omega arith;
        made = refl;
        owed = omega arith;
        matched = λ _. refl;
        failed = λ e. absurd (true≢false e);
        each = λ q calms since late. (tt, calms, late);
      }

  pub one_matched : (server : E) (z : ClientEnd E) (ss : List E) (zs : List (ClientEnd E)) (m : Bool) (old mid new : Pairing) (t : Transcript) → SettledSoFar (server ∷ ss) (z ∷ zs) m old mid →
      new.settled ≡ mid.settled ++ t ∷ [] → new.unmatched ≡ mid.unmatched → new.made ≡ mid.made → mid.owed ≡ suc new.owed → SettledSoFar ss zs m old new
  one_matched server z ss zs m old mid new t was settled same made owed =
      let more = length-append was.transcripts (t ∷ []) in
      let count = was.count in
      let before = was.owed in
      record {
        transcripts = was.transcripts ++ t ∷ [];
        others = was.others;
        settled = settled ∙ (ap (λ (l : List Transcript). l ++ t ∷ []) was.settled ∙ append_assoc old.settled was.transcripts (t ∷ []));
        unmatched = same ∙ was.unmatched;
        count = omega (arith, more, count);
        made = made ∙ was.made;
        owed = omega (arith, more, before, owed);
        matched = was.matched;
        failed = was.failed;
        each = λ q calms since late. let e = was.each q calms since late in (e.0, e.1.1, e.2.1);
      }

  pub one_failed : (server : E) (z : ClientEnd E) (ss : List E) (zs : List (ClientEnd E)) (m : Bool) (old mid new : Pairing) (ends : BothEnds) → SettledSoFar (server ∷ ss) (z ∷ zs) m old mid →
      new.settled ≡ mid.settled → new.unmatched ≡ mid.unmatched ++ ends ∷ [] → new.made ≡ mid.made → mid.owed ≡ suc new.owed →
      ends.server ≡ told server → ends.client ≡ told z.end → AreTwoEnds old.made (told server) (told z.end) →
      (net_calm → calm server → calm z.end → BothArrived (told server) (told z.end) → settle.Failed ≡ settle.Matched) → SettledSoFar ss zs false old new
  one_failed server z ss zs m old mid new ends was same unmatched made owed at_server at_client pair differ =
      let more = length-append was.others (ends ∷ []) in
      let count = was.count in
      let before = was.owed in
      record {
        transcripts = was.transcripts;
        others = was.others ++ ends ∷ [];
        settled = same ∙ was.settled;
        unmatched = unmatched ∙ (ap (λ (l : List BothEnds). l ++ ends ∷ []) was.unmatched ∙ append_assoc old.unmatched was.others (ends ∷ []));
        count = omega (arith, more, count);
        made = made ∙ was.made;
        owed = omega (arith, more, before, owed);
        matched = λ e. absurd (true≢false (sym e));
        failed = λ _. omega (arith, more);
        each = λ q calms since late.
            let e = was.each q calms since late in (
              all_more (HasDiffered since old.made) was.others ends e.0
                  (subst (λ (s : Told). HasDiffered since old.made (record ends { server = s })) (sym at_server)
                  (subst (λ (c : Told). HasDiffered since old.made (record ends { server = told server; client = c })) (sym at_client)
                  (record { pair = pair; late = e.2.0; differ = λ both. is_failed (differ q e.1.0.0 e.1.0.1 both) }))),
              e.1.1,
              e.2.1,
            );
      }

  pub all_settled : (zs : List (ClientEnd E)) (m : Bool) (old new : Pairing) → SettledSoFar [] zs m old new → SettledEach told calm net_calm servers clients m old new
  all_settled zs m old new was =
      let count = was.count in
      let owed = was.owed in
      record {
        transcripts = was.transcripts;
        others = was.others;
        settled = was.settled;
        unmatched = was.unmatched;
        count = omega (arith, count);
        made = was.made;
        owed = omega (arith, count, owed);
        matched = was.matched;
        failed = was.failed;
        each = λ q calms since late. (was.each q calms since late).0;
      }
