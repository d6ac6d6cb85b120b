use Rattle.std.proofs.Common.{◌≡◌, get_or, length, sym, subst, arith, ◌∙◌, ap}
use Rattle.qs_standings.proofs.Common.{AreCallsWithin, block_at, BlockResult, BlockShape, zeros}
use Rattle.qs_program.proofs.Bounds.{sound_block}
use Rattle.qs_standings.specs.Standings.{StandingShape}
use Rattle.qs_standings.proofs.Stands.{block_within, read_at, same_run}
use Rattle.qs_standings.proofs.standing.Standing.run_next.Goals as goal
use Rattle.qs_standings.proofs.standing.Standing.run_next.Goals.{After-as_slice}

begun_here : (c : After-as_slice) → c.index.result.now ≡ get_or c.args.self.now.begun c.args.client 0
begun_here c =
    read_at c.self.inside.begun.items c.args.self.now.begun c.args.client c.from-place.result c.index.result.now 0
    c.index.ensures c.from-place.ensures (ap (λ (s : StandingShape). s.begun) c.self.view_is) (let n = c.requires.standing.begun in let l = c.requires.client in omega (arith, n, l))

locals_here : (c : After-as_slice) → c.at.result ≡ get_or c.args.self.now.locals c.args.client zeros
locals_here c = c.at.ensures.at ∙ (λ i. get_or (c.self.view_is i).locals (c.from-place.ensures i) zeros)

states_here : (c : After-as_slice) → c.as_slice.result.now ≡ c.args.self.now.states
states_here c = c.as_slice.ensures.value ∙ ap (λ (s : StandingShape). s.states) c.self.view_is

block_here : (c : After-as_slice) → c.block-block.result.now ≡ block_at c.args.program.now c.args.client (get_or c.args.self.now.begun c.args.client 0)
block_here c = c.block-block.ensures.value ∙ ap (block_at c.args.program.now c.args.client) (begun_here c)

pub run_block-requires : goal.run_block-requires
run_block-requires c =
    let a : After-as_slice = (goal.at.run_block-requires c).After-as_slice in
    let p = c.args.program.now in
    let within : AreCallsWithin (length p.objects) (block_at p c.args.client (get_or c.args.self.now.begun c.args.client 0)).body =
    block_within p.objects _ (sound_block _ _ _ c.keeps_sound.ensures.sound c.requires.client c.requires.left) in
    let here : AreCallsWithin (length p.objects) c.block-block.result.now.body =
    subst (λ (b : BlockShape). AreCallsWithin (length p.objects) b.body) (sym (block_here a)) within in
    record { within = subst (λ n. AreCallsWithin n c.block-block.result.now.body) (sym (ap length (states_here a) ∙ c.requires.standing.states)) here }

pub returns : goal.returns
returns c =
    let a : After-as_slice = (goal.at.returns c).After-as_slice in
    let ran = same_run (block_here a) (locals_here a) (states_here a) in
    record {
      ran = record {
        locals = c.in_ok-run_block.ensures.locals ∙ ap (λ (o : BlockResult). o.locals) ran;
        states = c.in_ok-run_block.ensures.states ∙ ap (λ (o : BlockResult). o.states) ran;
        count = c.in_ok-run_block.ensures.count ∙ ap length (states_here a);
      };
    }
