use Rattle.std.proofs.Common.{◌≡◌, ◌<◌, ◌++◌, ◌∷◌, [], ap, sym, subst, ◌∙◌, arith, length, map, set, Some, ◌+◌, List, ℕ}
use Rattle.std.proofs.lemmas.List.{map-append, length-append}
use Rattle.qs_program.specs.audit.Limits.{most_handlers}
use Rattle.qs_desk.specs.TicketQueues.{QueueView, queue_at, queue_name, new_end, new_queue, end_at, IsNewQueue}
use Rattle.qs_desk.specs.Places.{places}
use Rattle.qs_desk.proofs.Starts.{ends_more, at_end, names_len}
use Rattle.qs_desk.proofs.raw.make_queues.Goals as goal

pub loop-handler-preserved : goal.loop-handler-preserved
loop-handler-preserved c =
    let p = c.args.program.now in
    let l = c.loop-handler in
    let sender = c.in_ok-sender.sender in
    let end = c.in_ok-sender.end in
    let name = end.name in
    let items : c.push.new.self.items ≡ l.senders.items ++ sender ∷ [] = c.in_ok-push.ensures.items in
    let is_line : sender ≡ new_queue p name l.handler = c.in_ok-sender.ensures.sender in
    let is_end : end ≡ new_end p name l.handler = c.in_ok-sender.ensures.end in
    let names = map queue_name l.senders.items in
    let more : map queue_name c.push.new.self.items ≡ names ++ name ∷ [] = ap (map queue_name) items ∙ map-append queue_name l.senders.items (sender ∷ []) ∙ ap (λ (x : QueueView). names ++ x.name ∷ []) is_line in
    let at : length names ≡ l.handler = names_len l.senders.items ∙ l.invariant.len in
    let small : l.handler < most_handlers = omega (arith, c.loop-handler-test.true, c.objects-handler-end.ensures.value, c.keeps_sound.ensures.sound.objects) in
    let room : length names < most_handlers = omega (arith, at, small) in
    let new : IsNewQueue p (length l.senders.items) sender = subst (λ (n : ℕ). sender ≡ new_queue p sender.name n) (sym l.invariant.len) (is_line ∙ ap (λ (x : QueueView). new_queue p x.name l.handler) (sym is_line)) in
    record {
      len = ap length items ∙ length-append l.senders.items (sender ∷ []) ∙ ap (λ n. n + 1) l.invariant.len;
      senders = subst (λ (ls : List QueueView). (h : ℕ) → h < length ls → IsNewQueue p h (queue_at ls h)) (sym items) (at_end (IsNewQueue p) l.senders.items sender l.invariant.senders new);
      ends = (λ i. set (l.invariant.ends i) (sym at i) (Some (is_end i))) ∙ ap (λ (n : ℕ). set (map (end_at p names) places) (length names) (Some (new_end p name n))) (sym at) ∙ ends_more p names name room ∙ ap (λ ns. map (end_at p ns) places) (sym more);
    }
