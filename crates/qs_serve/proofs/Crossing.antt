-- What threads share that answer questions: the questions hold nothing that a thread must not see while another one does.
use denote.Param.Send.{IsSend, IsSync, sendable}
use denote.Ref.{NamedLft}
use Rattle.std.proofs.Crossing.{crosses}

name_sync : IsSync Rattle.qs_script.specs.contracts.tokens.name.Name.the_row
name_sync = search (crosses, sendable) depth 40

args_sync : IsSync Rattle.qs_objects.specs.contracts.args.Args.the_row
args_sync = search (crosses, sendable) depth 40

value_sync : IsSync Rattle.qs_conditions.specs.contracts.condition.Value.the_row
value_sync = search (args_sync, name_sync, crosses, sendable) depth 40

summand_sync : IsSync Rattle.qs_conditions.specs.contracts.condition.Summand.the_row
summand_sync = search (value_sync, crosses, sendable) depth 40 fits 100000

sum_sync : IsSync Rattle.qs_conditions.specs.contracts.condition.Sum.the_row
sum_sync = search (summand_sync, crosses, sendable) depth 40

condition_sync : IsSync Rattle.qs_conditions.specs.contracts.condition.Condition.the_row
condition_sync = search (sum_sync, crosses, sendable) depth 40

pub question_sync : IsSync Rattle.qs_line.specs.contracts.question.Question.the_row
question_sync = search (condition_sync, sum_sync, crosses, sendable) depth 40

pub asked_send : (a : NamedLft) → IsSend (Rattle.qs_serve.specs.contracts.questions.Asked.the_row a)
asked_send a = search (question_sync, crosses, sendable) depth 40
