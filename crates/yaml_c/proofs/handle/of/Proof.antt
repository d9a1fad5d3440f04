-- `of` takes the box apart.
use Rattle.std.proofs.Common.{◌≡◌, List, [], ◌∷◌, ◌++◌, true, refl, sym, ap, ◌∙◌, subst}
use mir.Syntax.{impl, tnil, tcons, dnil}
use mir.Val.{Val, vptr, vstruct, vcons, vnil}
use mir.Raw.{raw as bare}
use base.Logic.{SProp, ent, id⊢, fst∗, never, emp}
use base.Fml.{ftrue, flft}
use prog.Wp.{WpFn}
use types.Kit.{‵, raw, ◌⊛◌, some, later, ◌$◌, ◌∵◌, !, qed, by, move, keep, drop, split, join, fsplit, fjoin, pick, suffices, use0, use1, await, feq_i, feq_l}
use types.Run.{of_opd, no_more, and_then, returns, enter}
use types.ByLocal.{alloc_all, pass_all, free_all, look_at, get, sets}
use contract.Monad.{fact, fact_i}
use contract.BorrowLft.{◌⊑◌, ⊑_refl, ⊑_static}
use denote.Triple.Table.{widened}
use contract.Running.{tables}
use denote.Exit.{no}
use denote.RattleType.{RattleType, owns}
use denote.Signature.{types_at, plain}
use Rattle.yaml_c.specs.Handle.{handle_owns, heap as handle_heap}
use base.Fraction.{full_share}
use types.Logic.{sem}
use denote.RawPtr.{Ptr, block_ptr, ptr_val, in_a_block, null_ptr}
use denote.Steps.{nothing, only}
use denote.Param.{arg, layout}
use denote.Param.Laws.{Laws, arg_laws}
use denote.Param.NoDrop.{glues}
use denote.Triple.Clauses.{Lasts, lasts}
use denote.Triple.Spec.{triple_of}
use denote.Triple.Call.{calls_at}
use denote.Builtin.{RawPtr}
use denote.Struct.Struct.{within}
use denote.Struct.Owning.{shape}
use types.Part.{agg}
use types.ByLocal.{lands_as}
use types.Kit.{fpack}
use denote.RattleType.{Valss}
use Rattle.std.specs.contracts.boxed.Box as boxed
use denote.Triple.Walked.{Stays, stay_dropped, walk_of}
use Rattle.std.proofs.alloc.Calls.{Goes-blank}
use denote.Triple.Table.{framed}
use Rattle.std.proofs.BoxSteps.Form as box
use Rattle.std.proofs.BoxSteps.Steps.{box_out, box_in}
use Rattle.std.proofs.raw_atomic.Walks.{proved_at, leaves}
use Rattle.std.specs.contracts.alloc.Global as global
use Rattle.std.proofs.alloc.Global.TheLaws as global_laws
use Rattle.std.specs.contracts.impls.GlobalAllocator.TheImpl as heap
use Rattle.std.proofs.impls.GlobalAllocator.TheImpl.Met as heap_met
use Rattle.yaml_c.specs.contracts.kinds.held_any_t as kept
use Rattle.yaml_c.proofs.kinds.held_any_t.TheLaws as kept_laws
use Rattle.std.specs.contracts.boxed.Box.into_raw as callee
use Rattle.std.proofs.boxed.Box.into_raw.Met.{met}
use Rattle.yaml_c.specs.contracts.handle.held_at_t as hand
use Rattle.yaml_c.specs.contracts.handle.of.{ended, clauses}
use Rattle.yaml_c.specs.contracts.handle.of.Key.{name as #self}
use Rattle.yaml_c.proofs.handle.of.Statement.{statement}
use Rattle.yaml_c.proofs.handle.of.Code as code
use Rattle.yaml_c.proofs.yaml_c++kinds++held_any_t+Destruct.drop.Kinds as drop_kinds
use Rattle.yaml_c.proofs.yaml_c++kinds++held_any_t+Destruct.drop.Met as drop_met
use Rattle.yaml_c.proofs.yaml_c++kinds++held_any_t+Destruct.drop.Reads as drop_reads
use Rattle.yaml_c.proofs.yaml_c++kinds++held_any_t+Destruct.drop.Symbol as drop_symbol
use borrow.Fn.Glue.{glue_by}
use borrow.Fn.Impl.{via_longer}
use borrow.Fn.Kinds.{ended_of, stays, ParamKind, ResultKind, r_unit}
use borrow.Fn.Run.{Over}
use borrow.Kind.Owned.{p_owned}
use denote.Param.{param, layouts}
use denote.Param.Laws.{param_laws}
use denote.Param.Mute.{Mute-seen}
use denote.Triple.Carry.{AllWithin}
use denote.Triple.Clauses.{at_exit}
use denote.Triple.Walked.{Fit}
use mir.Syntax.{method}
use Rattle.yaml_c.proofs.Destruct++none.drop.Code.{code as drop_code}

abbrev X : RattleType
X = arg (bare (layout kept.the_row)) no kept.the_row

abbrev LX : Laws X
LX = arg_laws (bare (layout kept.the_row)) no kept.the_row kept_laws.the_row_laws refl

abbrev Z : RattleType
Z = arg (bare (layout global.the_row)) no global.the_row

abbrev LZ : Laws Z
LZ = arg_laws (bare (layout global.the_row)) no global.the_row global_laws.the_row_laws refl

abbrev drop_ps : List (ParamKind 1)
drop_ps = p_owned (param 0 X) refl no (Mute-seen (λ x. tt)) (λ M 𝓤 𝓛. (param_laws 0 X LX).lawful 𝓛) ∷ []

abbrev drop_r : ResultKind 1
drop_r = r_unit

pub of_spec : {M : Type 1} → statement M
unfolding drop_code
of_spec {M} 𝓤 𝓛 𝓜 𝓡 wired =
    let H = 𝓛.H in let 𝓣 = tables 𝓤 H 𝓜 𝓡 𝓡.env in let En = ended in let c = clauses 𝓛 𝓜.mem 𝓡.returns in
    let dd = impl ("yaml_c::Destruct++none::drop" ∷ []) (tcons (layout Z) tnil) dnil in
    let dx = impl ("yaml_c::yaml_c++kinds++held_any_t+Destruct::drop" ∷ []) tnil dnil in
    let E : box.Bx = record { row = X; laws = LX; al = record { row = Z; laws = LZ; g = heap.ghosts; d = heap.dict; drops = dd } } in
    let fn = code.function in
    let glue = glue_by X LX (record { M = M; 𝓤 = 𝓤; 𝓛 = 𝓛; 𝓜 = 𝓜; 𝓡 = 𝓡 }) dx 𝓡.env
    (λ κs a. Lasts (ended_of 1 drop_kinds.ps drop_kinds.r) ([], tt) a)
    (λ κs a. lasts (ended_of 1 drop_kinds.ps drop_kinds.r) ([], tt) a)
    (λ κs a x ws. Fit (ended_of 1 drop_kinds.ps drop_kinds.r) (stays drop_kinds.ps) ([], tt) a ws × drop_reads.Learnt ([], tt) a x (at_exit (ended_of 1 drop_kinds.ps drop_kinds.r) ([], tt) a ws))
    (λ κs a. AllWithin 1 (κs.0, tt) (X.lives, tt) × Unit {0}) 1 ((0, tt), tt) (λ κs a h. ((h, tt), tt))
    (via_longer 𝓛 (Over 𝓛 𝓜 𝓡 𝓡.env) 1 drop_ps drop_r
    (λ κs a. Lasts (ended_of 1 drop_kinds.ps drop_kinds.r) ([], tt) a)
    (λ κs a. lasts (ended_of 1 drop_kinds.ps drop_kinds.r) ([], tt) a)
    (λ κs a x ws. Fit (ended_of 1 drop_kinds.ps drop_kinds.r) (stays drop_kinds.ps) ([], tt) a ws × drop_reads.Learnt ([], tt) a x (at_exit (ended_of 1 drop_kinds.ps drop_kinds.r) ([], tt) a ws))
    (λ κs a. AllWithin 1 (κs.0, tt) (X.lives, tt) × Unit {0}) (method dx 0 (layouts [] tt)) 1 ((0, tt), tt) (λ κs. ([], tt)) (λ κs a. drop_reads.Asked ([], tt) a) (λ κs a p. ((⊑_static κs.0, tt), tt))
    (λ κs bd within a vss qs. drop_reads.known (record { M = M; 𝓤 = 𝓤; 𝓛 = 𝓛; 𝓜 = 𝓜; 𝓡 = 𝓡 }) 𝓡.env (method dx 0 (layouts [] tt)) (𝓡.env (method dx 0 (layouts [] tt))) refl
    (widened 𝓤 H _ 𝓜 𝓡 𝓡.env (𝓡.env drop_symbol.name) (𝓡.env (method dx 0 (layouts [] tt)))
    (drop_symbol.as_method 𝓡.env (code.calls-yaml_c::yaml_c++kinds++held_any_t+Destruct::drop 𝓡.env wired) (method dx 0 (layouts [] tt)) refl) (drop_met.met 𝓤 𝓛 𝓜 𝓡 (code.calls-yaml_c::yaml_c++kinds++held_any_t+Destruct::drop 𝓡.env wired)))
    ((([], tt), qs, (⊑_static [], tt), a, vss), tt))) in
    let known = met 𝓤 𝓛 𝓜 𝓡 (code.calls-std_alloc::boxed::Box::into_raw 𝓡.env wired) X Z LX LZ heap.ghosts heap.dict dd dx
    (heap_met.passed 𝓡.env (code.calls-std_heap::GlobalAllocator::allocate 𝓡.env wired) (code.calls-std_heap::GlobalAllocator::deallocate 𝓡.env wired) (code.calls-std_heap::GlobalAllocator::grow 𝓡.env wired) (code.calls-std_heap::GlobalAllocator::shrink 𝓡.env wired) M 𝓤 𝓛 𝓜 𝓡)
    (glues "yaml_c::Destruct++none::drop" 𝓡.env (code.calls-yaml_c::Destruct++none::drop 𝓡.env wired) Z LZ M 𝓤 𝓛 𝓜 𝓡) glue in
    let Bd : RattleType = boxed.the_row kept.the_row global.the_row heap.ghosts in
    let hs : Stays En.signature.params En.kept = (stay_dropped (plain (λ _. Bd)) no, tt) in
    proved_at 𝓛 En hs c 𝓜 𝓡 (Goes-blank 𝓛 0 (plain (λ _. Bd)) no (λ κs x f. tt), tt) #self fn (code.unfolded 𝓤 H 𝓜 𝓡 wired) (λ z are.
    let κs = z.0.0 in let v = z.0.3.0 in
    let Post : Val → SProp 𝓤 = (walk_of 𝓛 En hs c).post z in let Run : List Val → SProp 𝓤 = λ ws. WpFn 𝓤 H 𝓣.C 𝓣.Λ fn ws Post in
    qed 𝓛 ((‵ ftrue ⊛ ‵ (owns (types_at En.signature.params κs) z.0.3 z.0.4)) ∷ raw (emp 𝓤) ∷ []) ∵ split ! $ move ! (1 ∷ []) $ fsplit ! $
    box_out E ! v z.0.4.0 (λ b o h e ws fits. box_in E ! v b o v.value e refl $
    let w : Val = box.word E h b o in let typed = box.box_typed E h b o fits in
    let k = triple_of 𝓛 (callee.signature X Z heap.ghosts heap.dict dd dx) (callee.spec X Z heap.ghosts heap.dict dd dx 𝓛 𝓜.mem 𝓡.returns) in
    let y : k.Ghost = ((([], ([], tt)), (full_share, (full_share, tt)), tt, (v, tt), (w ∷ [], tt)), tt) in
    suffices ! (Run (w ∷ [])) (subst (λ (us : List Val). ent 𝓤 (Run (w ∷ [])) (Run us)) (sym (λ i. ws i ++ [])) (id⊢ 𝓤 (Run (w ∷ [])))) $ keep ! (0 ∷ []) $
    enter ! 𝓣.C 𝓣.Λ fn (w ∷ []) Post $ alloc_all ! (λ l. pass_all ! refl (typed, tt) $ sets ! (of_opd ! (get ! refl)) refl typed $
    nothing ! $ use0 𝓛 (raw (fact 𝓤 ([] ⊑ Z.lives))) (fact_i 𝓤 ([] ⊑ Z.lives) (emp 𝓤) (⊑_refl [])) $ join ! $
    use0 𝓛 (raw (fact 𝓤 ([] ⊑ X.lives))) (fact_i 𝓤 ([] ⊑ X.lives) (emp 𝓤) (⊑_refl [])) $ join ! $
    nothing ! $ move ! (2 ∷ 0 ∷ []) $ fjoin ! $
    nothing ! $ use0 𝓛 (‵ (flft [] full_share)) (𝓛.lfts.lft-nil full_share) $ join ! $ use0 𝓛 (‵ (flft [] full_share)) (𝓛.lfts.lft-nil full_share) $ join ! $ join ! $ join ! $
    use1 𝓛 (raw (k.pre y)) (id⊢ 𝓤 _) $
    calls_at ! (framed 𝓤 H 𝓜 𝓣) k known y (and_then ! (get ! refl) (no_more !)) (λ u.
    use1 𝓛 (later (some (λ (r : Ptr). ((‵ (flft [] full_share) ⊛ ‵ (flft [] full_share) ⊛ ‵ ftrue) ⊛ ‵ (RawPtr.own_val r (u ∷ []))) ⊛ some (λ (ls : Lasts (callee.ended X Z heap.ghosts heap.dict dd dx) y.0.0 y.0.3). ‵ (lasts (callee.ended X Z heap.ghosts heap.dict dd dx) y.0.0 y.0.3 ls) ⊛ ‵ (handle_owns true r v.value))))) (id⊢ 𝓤 (k.post y u)) $
    await ! tt $ pick ! (λ r. split ! $ split ! $ drop ! $ feq_l ! (λ eu. pick ! (λ _. split ! $ drop ! $
    in_a_block ! r (λ p. handle_owns true p v.value) (fst∗ 𝓤 (never 𝓤) (sem 𝓛 (heap.ghosts.dealloc_token handle_heap (bare (layout kept.the_row)) null_ptr))) (λ b' o' e'.
    let t : Val = vstruct (vcons (vptr b' o') vnil) in
    let x : (hand.the_row).Denot = record { live = true; at = block_ptr b' o'; value = v.value } in
    lands_as ! (ap only eu ∙ ap ptr_val e') refl (tt, tt) $ sets ! (of_opd ! (get ! refl)) refl (tt, tt) $
    sets ! (agg ! (and_then ! (get ! refl) (no_more !))) refl (tt, (tt, tt)) $
    use0 𝓛 (raw (fact 𝓤 (v.value ≡ v.value))) (fact_i 𝓤 (v.value ≡ v.value) (emp 𝓤) refl) $ use0 𝓛 (raw (fact 𝓤 (true ≡ true))) (fact_i 𝓤 (true ≡ true) (emp 𝓤) refl) $ join ! $ move ! (1 ∷ 0 ∷ []) $
    nothing ! $ feq_i ! (List Val) (vptr b' o' ∷ []) (vptr b' o' ∷ []) refl $ fjoin ! $
    feq_i ! (List Val) (t ∷ []) (t ∷ []) refl $ fjoin ! $
    fpack ! (Valss (RawPtr ∷ [])) (within (shape hand.the_type) (block_ptr b' o', tt) (t ∷ [])) (vptr b' o' ∷ [], tt) $ fjoin ! $
    nothing ! $ nothing ! $ fjoin ! $ nothing ! $
    returns ! (look_at ! 0 refl) $ free_all ! refl $ by ! (leaves 𝓛 En hs c z t x (tt, tt) (tt, tt))))))))))
