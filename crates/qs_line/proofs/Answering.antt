-- When clap refuses a line, the fault that is answered is the one that the kind of clap's error stands for, or that
-- memory ran out. The proofs of `matches_of` and `read_line` stand on it. It goes by cases on the kinds of error that
-- clap may give, all of which stand for one and the same answer.
use Rattle.std.proofs.Common.{◌≡◌, ◌≢◌, ◌∙◌, List, [], ◌∷◌, Option, Result, Ok, Err, false, refl, sym, ap, inl, inr}
use Rattle.std.specs.Result.{IsErrAnd}
use Rattle.clap.specs.Faults.{fault_of}
use Rattle.clap.specs.Kinds.{HasKind, IsAmong, Kinds}
use Rattle.clap.specs.Words.{Text, subcommand_of}
use Rattle.clap.specs.Values.{kind_of}
use Rattle.clap.specs.declared.error.Error.{Error}
use Rattle.clap.specs.declared.error.kind.ErrorKind.{ErrorKind}
use Rattle.clap.specs.declared.error.kind.ErrorKind.TheVariants.{DisplayHelp, DisplayVersion}
use Rattle.qs_line.specs.audit.Command.{qs_app}
use Rattle.qs_line.specs.audit.Line.{Request, asks_language, refused}
use Rattle.qs_line.specs.Line.{IsAnswer, IsFault, IsFaultAmong, line_by, line_in, line_of_kind, request_met}
use Rattle.qs_line.specs.declared.line.LineFault.{LineFault}
use Rattle.qs_line.specs.declared.line.LineFault.TheVariants as fault
use Rattle.qs_line.proofs.Alike.{Alike}

pub fault_among : (kinds : Kinds) (e : Error) (f : LineFault) → HasKind kinds e → IsFault (kind_of e) f → IsFaultAmong kinds f
fault_among kinds e fault.Memory has is = tt
fault_among kinds e fault.Refused (inl memory) is = absurd (is.2 memory)
fault_among kinds e _ (inl memory) is = absurd (cc (sym is ∙ memory))
fault_among kinds e _ (inr among) is = (kind_of e, among, is)

neither_is_refused : (k : ErrorKind) → k ≢ DisplayHelp → k ≢ DisplayVersion → line_of_kind k ≡ refused
neither_is_refused DisplayHelp no_help no_version = absurd (no_help refl)
neither_is_refused DisplayVersion no_help no_version = absurd (no_version refl)
neither_is_refused _ no_help no_version = refl

first_says : (k : ErrorKind) (ks : Kinds) (other : ErrorKind) → Alike (k ∷ ks) → IsAmong other (k ∷ ks) → line_of_kind other ≡ line_of_kind k
first_says k ks other alike (inl same) = ap line_of_kind same
first_says k ks other alike (inr among) = alike.each other among

-- a fault by one of the kinds is what the line comes to by the first
pub fault_is_answer : (kinds : Kinds) (request : Option Request) (f : LineFault) → Alike kinds → IsFaultAmong kinds f
    → IsAnswer (line_by kinds request) (Err f)
fault_is_answer kinds request fault.Memory alike among = tt
fault_is_answer [] request _ alike among = absurd among.1
fault_is_answer (k ∷ ks) request fault.Refused alike among =
    sym (first_says k ks among.0 alike among.1) ∙ neither_is_refused among.0 among.2.0 among.2.1
fault_is_answer (k ∷ ks) request _ alike among = sym (first_says k ks among.0 alike among.1) ∙ ap line_of_kind among.2

-- a line that does not ask for the page on the language is what clap makes of it
pub other_line : (words : List Text) → asks_language words ≡ false
    → line_in words ≡ line_by (fault_of qs_app words) (request_met (subcommand_of qs_app words))
other_line words unasked = rw unasked refl

-- `?` hands on the fault
pub handed_on : {T : Type 0} (r : Result T LineFault) (f : LineFault) → IsErrAnd r (λ g. g ≡ f) → r ≡ Err f
handed_on (Ok x) f is = absurd is
handed_on (Err g) f is = ap Err is
