-- A handler that gives its object or an empty chunk takes a parcel next, and its mind stays as it is.
use Rattle.std.proofs.Common.{◌≡◌, ℕ, rules}
use Rattle.qs_played.proofs.Names.{HeldState, Request}
use Rattle.qs_core_laws.proofs.Names.{Batch, with_act}
use Rattle.qs_handler.specs.audit.Handler.{Handler, act_of, gave}
use Rattle.qs_handler.specs.declared.mind.Act.{Act}
use Rattle.qs_handler.specs.declared.mind.Act.TheVariants as acts

pub given_rests : (m : Handler) (a : Act) (c : ℕ) (x : HeldState) → a ≡ acts.Give c x → a ≡ act_of (with_act m a) → m ≡ gave (with_act m a) → m ≡ gave m
given_rests v a c x e f g = search rules

pub given_next : (m : Handler) (a : Act) (c : ℕ) (x : HeldState) → a ≡ acts.Give c x → a ≡ act_of (with_act m a) → m ≡ gave (with_act m a) → acts.TakeParcel c ≡ act_of m
given_next m v c x e f g = search rules

pub spared_rests : (m : Handler) (a : Act) (c : ℕ) (b : Batch Request) → a ≡ acts.Spare c b → a ≡ act_of (with_act m a) → m ≡ gave (with_act m a) → m ≡ gave m
spared_rests v a c b e f g = search rules

pub spared_next : (m : Handler) (a : Act) (c : ℕ) (b : Batch Request) → a ≡ acts.Spare c b → a ≡ act_of (with_act m a) → m ≡ gave (with_act m a) → acts.TakeParcel c ≡ act_of m
spared_next m v c b e f g = search rules
