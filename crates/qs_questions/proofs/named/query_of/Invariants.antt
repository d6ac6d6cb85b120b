use Rattle.std.proofs.Common.{◌≡◌, ◌==◌, ◌&&◌, drop}
use Rattle.qs_questions.proofs.Common.{arity, find, same_name, word}
use Rattle.qs_questions.specs.Questions.{only_asks}
use Rattle.qs_questions.proofs.named.query_of.Given as goal

abbrev pub invariant-loop-op : goal.invariant-loop-op
invariant-loop-op l =
    find (λ op. same_name l.word (word op) && (only_asks op && (arity op == l.count))) (drop l.op-index l.op-items)
    ≡ find (λ op. same_name l.word (word op) && (only_asks op && (arity op == l.count))) l.op-items
