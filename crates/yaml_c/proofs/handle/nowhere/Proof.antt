-- `nowhere` owns nothing.
use Rattle.std.proofs.Common.{◌≡◌, List, [], ◌∷◌, false, refl, lit<}
use mir.Val.{Val, vnull, vstruct, vcons, vnil}
use base.Logic.{SProp, emp}
use types.Kit.{raw, ◌$◌, ◌∵◌, !, qed, by, drop, fjoin, fpack, use0, feq_i}
use types.Run.{lit, no_more, and_then, returns, enter}
use types.ByLocal.{alloc_all, pass_all, free_all, look_at, sets}
use types.Part.{agg}
use contract.Monad.{fact, fact_i}
use contract.Running.{tables}
use denote.RattleType.{Valss}
use denote.RawPtr.{null_ptr}
use denote.Builtin.{RawPtr}
use denote.Triple.Entry.{on_entry}
use denote.Steps.{nothing}
use denote.Struct.Struct.{within}
use denote.Struct.Owning.{shape}
use denote.Triple.Walked.{Stays, walk_of}
use Rattle.std.proofs.raw_atomic.Walks.{proved_at, leaves}
use Rattle.yaml_c.proofs.NothingHeld.{nothing_held}
use Rattle.yaml_c.specs.contracts.handle.held_at_t as hand
use Rattle.yaml_c.specs.contracts.handle.nowhere.{ended, clauses}
use Rattle.yaml_c.specs.contracts.handle.nowhere.Key.{name as #self}
use Rattle.yaml_c.proofs.handle.nowhere.Statement.{statement}
use Rattle.yaml_c.proofs.handle.nowhere.Code as code

pub nowhere_spec : {M : Type 1} → statement M
nowhere_spec {M} 𝓤 𝓛 𝓜 𝓡 wired =
    let H = 𝓛.H in let 𝓣 = tables 𝓤 H 𝓜 𝓡 𝓡.env in let En = ended in let c = clauses 𝓛 𝓜.mem 𝓡.returns in
    let fn = code.function in
    let hs : Stays En.signature.params En.kept = tt in
    proved_at 𝓛 En hs c 𝓜 𝓡 tt #self fn (code.unfolded 𝓤 H 𝓜 𝓡 wired) (λ z are.
    let κs = z.0.0 in
    let Post : Val → SProp 𝓤 = (walk_of 𝓛 En hs c).post z in
    let w : Val = vstruct (vcons vnull vnil) in
    let v : (hand.the_row).Denot = record { at = null_ptr; live = false; value = nothing_held } in
    qed 𝓛 (raw (on_entry 𝓛 En.signature z.0.0 z.0.1 z.0.3 z.0.4) ∷ raw (emp 𝓤) ∷ []) ∵ drop ! $ drop ! $
    enter ! 𝓣.C 𝓣.Λ fn [] Post $ alloc_all ! (λ l. pass_all ! refl tt $
    sets ! (agg ! (and_then ! (lit ! tt) (no_more !))) refl (tt, (record { fits = lit< tt }, tt)) $
    use0 𝓛 (raw (fact 𝓤 (false ≡ false))) (fact_i 𝓤 (false ≡ false) (emp 𝓤) refl) $
    nothing ! $ nothing ! $ feq_i ! (List Val) (vnull ∷ []) (vnull ∷ []) refl $ fjoin ! $
    feq_i ! (List Val) (w ∷ []) (w ∷ []) refl $ fjoin ! $
    fpack ! (Valss (RawPtr ∷ [])) (within (shape hand.the_type) (null_ptr, tt) (w ∷ [])) (vnull ∷ [], tt) $ fjoin ! $ nothing ! $ nothing ! $
    returns ! (look_at ! 0 refl) $ free_all ! refl $ by ! (leaves 𝓛 En hs c z w v tt tt)))
