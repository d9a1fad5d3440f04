-- `into_box` makes the box again.
use Rattle.std.proofs.Common.{◌≡◌, List, [], ◌∷◌, ◌++◌, Bool, T, true, refl, sym, ap, ◌∙◌, subst}
use mir.Syntax.{impl, tnil, tcons, dnil}
use mir.Val.{Val, vptr, vstruct, vcons, vnil, of_list, has_ty, WT}
use mir.Raw.{raw as bare}
use base.Logic.{SProp, ent, id⊢, fst∗, never, emp}
use base.Fml.{ftrue, flft}
use prog.Wp.{WpFn}
use types.Kit.{‵, raw, ◌⊛◌, some, later, at_ret, ◌$◌, ◌∵◌, !, qed, by, move, keep, drop, split, split3, join, fsplit, fsplit3, fjoin, pick, suffices, use0, use1, await, rewrite, feq_i, feq_l, fpick}
use types.Run.{stop, fld, of_opd, no_more, and_then, first, blocks, exec, returns, enter}
use types.ByLocal.{alloc_all, pass_all, free_all, look_at, get, get_in, sets, lands_last, env}
use types.Part.{sub, whole}
use contract.Monad.{fact, fact_i}
use contract.BorrowLft.{◌⊑◌, ⊑_refl}
use contract.Running.{tables}
use denote.Exit.{no, yes}
use denote.RattleType.{RattleType, owns}
use denote.Signature.{types_at, plain}
use Rattle.yaml_c.specs.Handle.{handle_owns, heap as handle_heap}
use base.Fraction.{full_share}
use types.Logic.{sem}
use denote.RawPtr.{Ptr, block_ptr, ptr_val, in_a_block, null_ptr}
use denote.Steps.{nothing, only, heard}
use denote.Param.{arg, layout}
use denote.Param.Laws.{Laws, arg_laws}
use denote.Param.NoDrop.{glues}
use denote.Triple.Clauses.{Lasts, lasts}
use denote.Triple.Spec.{triple_of}
use denote.Triple.Call.{calls_at_last}
use denote.Triple.Walked.{Stays, stay_dropped, walk_of, Goes-dropped}
use Rattle.std.proofs.alloc.Calls.{Goes-blank, handle_tells}
use Rattle.std.proofs.alloc.Shapes.{after}
use denote.Triple.Table.{framed}
use Rattle.std.proofs.BoxSteps.Form as box
use Rattle.std.proofs.BoxSteps.Steps.{box_out, box_in}
use Rattle.std.proofs.raw_atomic.Walks.{proved_at, leaves}
use Rattle.std.specs.contracts.alloc.Global as global
use Rattle.std.proofs.alloc.Global.TheLaws as global_laws
use Rattle.std.specs.contracts.impls.GlobalAllocator.TheImpl as heap
use Rattle.std.proofs.impls.GlobalAllocator.TheImpl.Met as heap_met
use Rattle.yaml_c.specs.contracts.kinds.held_any_t as kept
use Rattle.yaml_c.proofs.kinds.held_any_t.TheLaws as kept_laws
use Rattle.std.specs.contracts.boxed.Box.from_raw as callee
use Rattle.std.proofs.boxed.Box.from_raw.Met.{met}
use Rattle.yaml_c.specs.contracts.handle.held_at_t as hand
use Rattle.yaml_c.specs.contracts.handle.into_box.{ended, clauses}
use Rattle.yaml_c.specs.contracts.handle.into_box.Key.{name as #self}
use Rattle.yaml_c.proofs.handle.into_box.Statement.{statement}
use Rattle.yaml_c.proofs.handle.into_box.Code as code
use Rattle.yaml_c.proofs.Destruct++none.drop.Code.{code as drop_code}

abbrev X : RattleType
X = arg (bare (layout kept.the_row)) no kept.the_row

abbrev LX : Laws X
LX = arg_laws (bare (layout kept.the_row)) no kept.the_row kept_laws.the_row_laws refl

abbrev Z : RattleType
Z = arg (bare (layout global.the_row)) no global.the_row

abbrev LZ : Laws Z
LZ = arg_laws (bare (layout global.the_row)) no global.the_row global_laws.the_row_laws refl

pub into_box_spec : {M : Type 1} → statement M
unfolding drop_code
into_box_spec {M} 𝓤 𝓛 𝓜 𝓡 wired =
    let H = 𝓛.H in let 𝓣 = tables 𝓤 H 𝓜 𝓡 𝓡.env in let En = ended in let c = clauses 𝓛 𝓜.mem 𝓡.returns in
    let dd = impl ("yaml_c::Destruct++none::drop" ∷ []) (tcons (layout Z) tnil) dnil in
    let E : box.Bx = record { row = X; laws = LX; al = record { row = Z; laws = LZ; g = heap.ghosts; d = heap.dict; drops = dd } } in
    let fn = code.function in
    let known = met 𝓤 𝓛 𝓜 𝓡 (code.calls-std_alloc::boxed::Box::from_raw 𝓡.env wired) X Z LX LZ heap.ghosts heap.dict dd
    (heap_met.passed 𝓡.env (code.calls-std_heap::GlobalAllocator::allocate 𝓡.env wired) (code.calls-std_heap::GlobalAllocator::deallocate 𝓡.env wired) (code.calls-std_heap::GlobalAllocator::grow 𝓡.env wired) (code.calls-std_heap::GlobalAllocator::shrink 𝓡.env wired) M 𝓤 𝓛 𝓜 𝓡)
    (glues "yaml_c::Destruct++none::drop" 𝓡.env (code.calls-yaml_c::Destruct++none::drop 𝓡.env wired) Z LZ M 𝓤 𝓛 𝓜 𝓡) in
    let hs : Stays En.signature.params En.kept = (stay_dropped _ yes, (stay_dropped (plain (λ _. hand.the_row)) yes, tt)) in
    proved_at 𝓛 En hs c 𝓜 𝓡 (Goes-dropped 𝓛 0 (plain (λ _. global.the_row)) yes (λ κs x w. refl), (Goes-blank 𝓛 0 (plain (λ _. hand.the_row)) yes (λ κs x f. tt), tt)) #self fn (code.unfolded 𝓤 H 𝓜 𝓡 wired) (λ z are.
    let κs = z.0.0 in let qs = z.0.1 in let a = z.0.3.0 in let h = z.0.3.1.0 in let Asked : Type 0 = h.live ≡ true in
    let Post : Val → SProp 𝓤 = (walk_of 𝓛 En hs c).post z in let Run : List Val → SProp 𝓤 = λ ws. WpFn 𝓤 H 𝓣.C 𝓣.Λ fn ws Post in
    qed 𝓛 ((‵ ftrue ⊛ ‵ (owns (types_at En.signature.params κs) z.0.3 z.0.4)) ∷ raw (fact 𝓤 Asked) ∷ []) ∵
    move ! (1 ∷ []) $ heard ! Asked (λ live. split ! $ move ! (1 ∷ []) $ fsplit3 ! $
    handle_tells E.al ! a z.0.4.0 (λ hv eh fa. move ! (1 ∷ []) $ fsplit ! $ fpick ! (λ vss. fsplit ! $ feq_l ! (λ ev. fsplit ! $ feq_l ! (λ ep. drop ! $
    rewrite ! 0 (λ (l : Bool). ‵ (handle_owns l h.at h.value)) live refl $
    in_a_block ! h.at (λ p. handle_owns true p h.value) (fst∗ 𝓤 (never 𝓤) (sem 𝓛 (heap.ghosts.dealloc_token handle_heap (bare (layout kept.the_row)) null_ptr))) (λ b o e.
    let k = triple_of 𝓛 (callee.signature X Z heap.ghosts heap.dict dd) (callee.spec X Z heap.ghosts heap.dict dd 𝓛 𝓜.mem 𝓡.returns) in
    let y : k.Ghost = ((([], ([], tt)), (full_share, (full_share, tt)), tt, (a, (block_ptr b o, tt)), (hv ∷ [], (vptr b o ∷ [], tt))), h.value) in
    let B : RattleType = box.B E in
    let w : Val = vstruct (vcons (vptr b o) vnil) in
    let ew : z.0.4.1.0 ≡ w ∷ [] = ev ∙ (λ j. vstruct (of_list ((ep ∙ ap (λ (p : Ptr). ptr_val p ∷ []) e) j ++ [])) ∷ []) in
    let us : List Val = hv ∷ w ∷ [] in
    suffices ! (Run us) (subst (λ (ws : List Val). ent 𝓤 (Run us) (Run ws)) (sym (λ i. eh i ++ (ew i ++ []))) (id⊢ 𝓤 (Run us))) $ keep ! (0 ∷ 1 ∷ []) $
    enter ! 𝓣.C 𝓣.Λ fn us Post $ alloc_all ! (λ l. pass_all ! refl (fa, ((tt, (tt, tt)), tt)) $ let Ev = env fn.locals l in
    sets ! (of_opd ! (get_in ! (fld ! refl (stop !)) (sub ! 0 refl (whole !)))) refl (tt, tt) $
    first ! $ blocks ! $ sets ! (of_opd ! (get ! refl)) refl (tt, tt) $
    use0 𝓛 (raw (fact 𝓤 ([] ⊑ Z.lives))) (fact_i 𝓤 ([] ⊑ Z.lives) (emp 𝓤) (⊑_refl [])) $ join ! $
    use0 𝓛 (raw (fact 𝓤 ([] ⊑ X.lives))) (fact_i 𝓤 ([] ⊑ X.lives) (emp 𝓤) (⊑_refl [])) $ join ! $
    nothing ! $ feq_i ! (List Val) (vptr b o ∷ []) (vptr b o ∷ []) refl $ fjoin ! $ move ! (2 ∷ 0 ∷ []) $ fjoin ! $
    nothing ! $ use0 𝓛 (‵ (flft [] full_share)) (𝓛.lfts.lft-nil full_share) $ join ! $ use0 𝓛 (‵ (flft [] full_share)) (𝓛.lfts.lft-nil full_share) $ join ! $ join ! $ join ! $
    use1 𝓛 (raw (k.pre y)) (id⊢ 𝓤 _) $
    calls_at_last ! (framed 𝓤 H 𝓜 𝓣) k known y (and_then ! (get ! refl) (and_then ! (get ! refl) (no_more !))) (λ u.
    use1 𝓛 (later (some (λ (r : B.Denot). ((‵ (flft [] full_share) ⊛ ‵ (flft [] full_share) ⊛ ‵ ftrue) ⊛ ‵ (B.own_val r (u ∷ []))) ⊛ some (λ (ls : Lasts (callee.ended X Z heap.ghosts heap.dict dd) y.0.0 y.0.3). ‵ (lasts (callee.ended X Z heap.ghosts heap.dict dd) y.0.0 y.0.3 ls) ⊛ (raw (fact 𝓤 (r.value ≡ h.value)) ⊛ raw (fact 𝓤 (r.alloc ≡ a))))))) (id⊢ 𝓤 (k.post y u)) $
    await ! tt $ pick ! (λ r. split ! $ move ! (1 ∷ []) $ pick ! (λ _. split3 ! $ drop ! $ move ! (2 ∷ []) $ split ! $ move ! (1 ∷ []) $
    box_out E ! r (u ∷ []) (λ b' o' h' e' us' fits'. box_in E ! r b' o' r.value e' refl $ rewrite ! 0 (λ (xs : List Val). ‵ (B.own_val r xs)) (sym us') refl $
    let typed = box.box_typed E h' b' o' fits' in
    let good : T (has_ty (box.box_ty E) u) × WT u = subst (λ (s : Val). T (has_ty (box.box_ty E) s) × WT s) (sym (ap only us')) typed in
    lands_last ! refl good $ exec ! 𝓣.C 𝓣.Λ Ev (after 2 fn.body) (at_ret Ev Post) $ sets ! (of_opd ! (get ! refl)) refl good $
    nothing ! $ nothing ! $ fjoin ! $ nothing ! $ fjoin ! $ nothing ! $
    returns ! (look_at ! 0 refl) $ free_all ! refl $ keep ! (0 ∷ 1 ∷ 2 ∷ 4 ∷ []) $ by ! (leaves 𝓛 En hs c z u r (tt, (tt, tt)) (tt, (tt, tt)))))))))))))))
