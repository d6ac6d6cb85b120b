use Rattle.std.proofs.Common.{◌≡◌, ◌<◌, ◌+◌, refl, sym, ap, ◌∙◌, subst, length, arith}
use Rattle.qs_client.specs.SoundMind.{IsSoundMind}
use Rattle.qs_sync_counts.specs.SyncRows.{counts_state}
use Rattle.qs_client.specs.audit.ClientModel.{finish, tally}
use Rattle.qs_client.specs.MindState.{MindState, mind_of, settings_in}
use Rattle.qs_client.specs.contracts.mind.Mind.{the_view}
use Rattle.qs_client.proofs.MindRefinement.{begun_outgoing, block_inside, counts_fit, tally_state, finish_is, finish_none, finish_sound, syncs_fit, with_run, with_syncs}
use Rattle.qs_client.proofs.mind.Mind.finish.Goals as goal

pub returns-in-Nothing : goal.returns-in-Nothing
returns-in-Nothing c =
    let m : MindState = the_view c.self.inside in
    record {
      done = ap (λ (x : MindState). mind_of x) (sym c.self.view_is) ∙ finish_none m c.in-Nothing.is ∙ ap (λ (x : MindState). finish (mind_of x)) c.self.view_is;
    }

pub overflow_add-self : goal.overflow_add-self
overflow_add-self c =
    let m : MindState = the_view c.self.inside in omega (arith, syncs_fit m c.self.invariant.1, c.syncs.ensures.value)

pub tally-requires : goal.tally-requires
tally-requires c =
    let m : MindState = the_view c.self.inside in
    let w : IsSoundMind m = c.self.invariant.1 in
    let block = block_inside m w (begun_outgoing m w c.in_default.not-Nothing) in
    record {
      block = subst (λ k. k < length m.counts.rows) (sym c.from.ensures) (omega (arith, block, w.tallies));
      few = counts_fit m w c.from.result;
    }

pub after_send-requires : goal.after_send-requires
after_send-requires c =
    let m : MindState = the_view c.self.inside in
    let w : IsSoundMind m = c.self.invariant.1 in
    record {
      block = block_inside m w (begun_outgoing m w c.in_default.not-Nothing);
      standing = (m.size, w.left, w.standing);
      gone = w.gone;
    }

pub invariant_of-self : goal.invariant_of-self
invariant_of-self c =
    let m : MindState = the_view c.self.inside in
    let w : IsSoundMind m = c.self.invariant.1 in
    let counted : c.tally.new.counts ≡ tally_state m =
    c.tally.ensures.counted ∙ ap (λ k. counts_state (tally m.outgoing k m.counts.rows) m.counts.room) c.from.ensures in
    let sent = c.after_send.ensures.sent (settings_in m) (length m.entries) w.left refl w.standing in (
      c.self.invariant.0,
      subst IsSoundMind (λ i. with_run (with_syncs m (m.syncs + sym c.syncs.ensures.value i) (sym counted i)) c.after_send.new.self)
          (finish_sound m c.after_send.new.self w (begun_outgoing m w c.in_default.not-Nothing) sent),
    )

pub returns : goal.returns
returns c =
    let m : MindState = the_view c.self.inside in
    let w : IsSoundMind m = c.self.invariant.1 in
    let counted : c.tally.new.counts ≡ tally_state m =
    c.tally.ensures.counted ∙ ap (λ k. counts_state (tally m.outgoing k m.counts.rows) m.counts.room) c.from.ensures in
    let sent = c.after_send.ensures.sent (settings_in m) (length m.entries) w.left refl w.standing in
    record {
      done = (λ i. mind_of (with_run (with_syncs m (m.syncs + c.syncs.ensures.value i) (counted i)) c.after_send.new.self))
          ∙ finish_is m w.left c.after_send.new.self sent
          ∙ ap (λ (x : MindState). finish (mind_of x)) c.self.view_is;
    }
