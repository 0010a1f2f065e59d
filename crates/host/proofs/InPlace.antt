-- One law for every entry that is lent a machine: it copies the machine out, has a function by value act on the copy, stores the machine that comes back, and answers with the rest of what came.
-- The types are variables here. That a value is of its MIR type (`has_ty`) computes through every variant of a type that is spelled
-- out, and with the older kit no walk over a type as large as the machine's got past one copy of it; at a variable it stands still.
--     Flat R τ         R is plain data: one machine value, of the MIR type τ, and nothing owned but facts
--     Parted S R B     S is a struct of an R and a B, as the function by value returns it
--     entry            the code
--     walk             it meets Post, from what the function by value meets
use mathlib.Core.Path.{◌≡◌, refl, sym, ap, subst}
use Prim.Native.Nat.{ℕ, ◌<◌, ◌^◌}
use mathlib.Core.List.{[], ◌∷◌, List}
use lib.Dec.{T}
use lib.ListN.{length}
use seplogic.Ra.Ura.{Ura}
use base.Fraction.{full_share}
use mir.Syntax.{Callee, Sym, named, erased, mut, w64, Ty, ty_int, ty_ref, ty_struct, tcons, tnil, deref, field, place, copy, rv_opd, addr_of, aggregate, seq, assign, call, return, value_local, local, Fn}
use mir.Val.{Val, vint, vptr, vstruct, vcons, vnil, WT, has_ty}
use base.Logic.{SProp, ent, sep}
use base.Fml.{GName, Lft, Share, ftrue, flft, fobs, fbor, fat}
use prog.Wp.{Calls, Loops, WpFn}
use types.Logic.{Logic, sem}
use contract.Monad.{fact}
use types.Kit.{Item, mean, ‵, raw, ⋆, ◌⊛◌, some, later, ◌$◌, ◌∵◌, !, qed, by, move, keep, drop, use1, use2, split, pick, rewrite, fsplit, fsplit3, await}
use types.Run.{look, look_raw, init, store_raw, forget, stop, hop, fld, from, load, addr, of_opd, and_then, no_more, assigns, land, returns, enter, alloc1, alloc0, params1, pass1, pass0, free1, free0}
use types.Part.{agg, whole, sub, look_in}
use types.SemTy.{Body}
use sound.WpLaws.{FmC}
use denote.RattleType.{RattleType, owns}
use denote.Laws.{Is, Tells, Makes, Typed, shows}
use denote.Lowered.{Lowered}
use denote.Memory.{mem, cell_at}
use denote.Builtin.{u64}
use denote.Ref.{MutBor, MutRef}
use denote.Slice.{slice_ty, slice_val, MutSlice, Room, finally}
use denote.Steps.{only, opens, closes, owned, peeks, heard}
use denote.Struct.Steps.{spelt}
use denote.Struct.Struct.{as_fields, Plains}
use denote.Struct.Declared as SD
use denote.Struct.Laws as LL
use denote.Enum.Declared as ED
use denote.Enum.Enum.{Few, Plainss}
use denote.Enum.Laws as EL
use denote.Triple.Call.{calls_from}

pub record Flat (R : RattleType) (τ : Ty) : Type 2 where
  pub val : R.Denot → Val
  pub lies : R.mir ≡ τ ∷ []
  pub tells : Tells R (Is R) (λ x. val x ∷ [])
  pub typed : {M : Type 1} {𝓤 : Ura M} (𝓛 : Logic 𝓤) (x : R.Denot) → Is R x (val x ∷ []) → T (has_ty τ (val x)) × WT (val x)
  pub makes : {M : Type 1} {𝓤 : Ura M} (𝓛 : Logic 𝓤) → Makes 𝓛 R (Is R)

pub record Parted (S R B : RattleType) {τ β : Ty} (FR : Flat R τ) (FB : Flat B β) (one : S.Denot → R.Denot) (two : S.Denot → B.Denot) : Type 2 where
  pub tells : Tells S (Is S) (λ d. vstruct (vcons (FR.val (one d)) (vcons (FB.val (two d)) vnil)) ∷ [])
  pub one_is : (d : S.Denot) (vs : List Val) → Is S d vs → Is R (one d) (FR.val (one d) ∷ [])
  pub two_is : (d : S.Denot) (vs : List Val) → Is S d vs → Is B (two d) (FB.val (two d) ∷ [])

-- a declared struct and a declared enum whose fields are plain data
unfoldable pub flat_struct : (S : SD.Declared) (L : LL.Laws S) → Plains (SD.fields S) → (lw : LL.Lowered S) → Flat (SD.row S) lw.mir
flat_struct S L pl lw = record {
  val = LL.val S L;
  lies = lw.layout_is;
  tells = LL.tells S L;
  typed = λ 𝓛 x is. (subst (λ (ts : List Ty). Typed ts (LL.val S L x ∷ [])) lw.layout_is ((LL.lawful S L 𝓛).typed x (LL.val S L x ∷ []) is)).0;
  makes = λ 𝓛. LL.makes S pl 𝓛;
}

unfoldable pub flat_enum : (E : ED.Declared) (L : EL.Laws E) → Few (ED.shape E) → Plainss (ED.variants E) → (lw : Lowered (ED.row E)) → Flat (ED.row E) lw.mir
flat_enum E L few pl lw = record {
  val = EL.val E L;
  lies = lw.layout_is;
  tells = EL.tells E L;
  typed = λ 𝓛 x is. (subst (λ (ts : List Ty). Typed ts (EL.val E L x ∷ [])) lw.layout_is ((EL.lawful E L 𝓛 few).typed x (EL.val E L x ∷ []) is)).0;
  makes = λ 𝓛. EL.makes E pl 𝓛;
}

-- f is the function by value, ν the name of the struct that it returns, π the machine's type as a reference names it; τ, β and ι are the machine, the reply and the act
abbrev pub entry : Callee → Sym → Ty → Ty → Ty → Ty → Fn
entry f ν π τ β ι = record {
  lifetimes = 2;
  outlives = [];
  ty_params = [];
  givens = 0;
  params = 4;
  locals = local β value_local ∷ local (ty_ref (named 0) mut π) value_local ∷ local (slice_ty (ty_ref (named 1) mut (ty_int w64))) value_local ∷ local (ty_int w64) value_local ∷ local ι value_local
      ∷ local (ty_struct ν (tcons τ (tcons β tnil))) value_local ∷ local τ value_local ∷ local τ value_local ∷ local (ty_ref erased mut (ty_int w64)) value_local ∷ local
      (slice_ty (ty_ref erased mut (ty_int w64))) value_local ∷ [];
  body = seq (assign (place 7 []) (rv_opd (copy (place 1 (deref τ ∷ [])))))
      (seq (assign (place 8 []) (addr_of (place 2 (field 0 ∷ deref (ty_int w64) ∷ []))))
      (seq (assign (place 9 []) (aggregate (copy (place 8 []) ∷ copy (place 2 (field 1 ∷ [])) ∷ [])))
      (seq (call f (copy (place 7 []) ∷ copy (place 9 []) ∷ copy (place 3 []) ∷ copy (place 4 []) ∷ []) (place 5 []))
      (seq (assign (place 6 []) (rv_opd (copy (place 5 (field 0 ∷ [])))))
      (seq (assign (place 1 (deref τ ∷ [])) (rv_opd (copy (place 6 []))))
      (seq (assign (place 0 []) (rv_opd (copy (place 5 (field 1 ∷ [])))))
      return))))));
}

module _ {S R B I : RattleType} {τ β ι : Ty} (FR : Flat R τ) (FB : Flat B β) (FI : Flat I ι) (one : S.Denot → R.Denot) (two : S.Denot → B.Denot) (P : Parted S R B FR FB one two)
    (f : Callee) (ν : Sym) (π : Ty) where
  abbrev σ : Ty
  σ = ty_struct ν (tcons τ (tcons β tnil))

  abbrev the_entry : Fn
  the_entry = entry f ν π τ β ι

  module _ {M : Type 1} {𝓤 : Ura M} (𝓛 : Logic 𝓤) (κ κ' : Lft) (q q' : Share) (b o : ℕ) (γ : GName) (h : R.Denot) (b' o' : ℕ) (γ' : GName) (ys : List ℕ)
      (n : ℕ) (i : I.Denot) where
    open 𝓛 use {H, A}

    abbrev y : MutBor (List ℕ)
    y = record { ref_ptr = (b', o'); ghost_name = γ'; now = ys }

    abbrev s : Val
    s = slice_val (b', o') (length ys)

    abbrev x : MutBor R.Denot × (MutBor (List ℕ) × (ℕ × (I.Denot × Unit {0})))
    x = (record { ref_ptr = (b, o); ghost_name = γ; now = h }, (y, (n, (i, tt))))

    abbrev at : List Val × (List Val × (List Val × (List Val × Unit {0})))
    at = (vptr b o ∷ [], (s ∷ [], (vint w64 n ∷ [], (FI.val i ∷ [], tt))))

    -- what is had where the code returns: the machine lent, at its new value, and the items' last list
    abbrev Left : S.Denot → List ℕ → List (Item 𝓤)
    Left r zs = ‵ (fobs γ (R.coded.code (one r))) ∷ ‵ (fbor κ (Body (mem R) b o γ)) ∷ ‵ (flft κ q) ∷ (‵ (flft κ' q') ⊛ ‵ ftrue) ∷ ‵ (finally u64 γ' zs) ∷ []

    -- what there is once the function by value has returned v: its token, its result, and what it ensures
    abbrev Back : (S.Denot → SProp 𝓤) → Val → Item 𝓤
    Back Ens v = later (some (λ (r : S.Denot). ((‵ (flft κ' q') ⊛ ‵ ftrue) ⊛ ‵ (S.own_val r (v ∷ []))) ⊛ raw (Ens r)))

    -- what it ensures, as the items' last list and a fact
    abbrev Last : (S.Denot → List ℕ → Type 0) → S.Denot → Item 𝓤
    Last Says r = some (λ (zs : List ℕ). ‵ (finally u64 γ' zs) ⊛ raw (fact 𝓤 (Says r zs)))

    -- its result is of the struct's type, since each part is of its own
    parts : (r : S.Denot) (vs : List Val) → Is S r vs → T (has_ty σ (vstruct (vcons (FR.val (one r)) (vcons (FB.val (two r)) vnil)))) × WT
        (vstruct (vcons (FR.val (one r)) (vcons (FB.val (two r)) vnil)))
    parts r vs is = as_fields (τ ∷ β ∷ []) (FR.val (one r) ∷ FB.val (two r) ∷ []) (FR.typed 𝓛 (one r) (P.one_is r vs is), (FB.typed 𝓛 (two r) (P.two_is r vs is), tt))

    module _ (C : Calls 𝓤 H) (Λ : Loops 𝓤 H) (fm : FmC 𝓤 H 𝓛.laws C) (Says : S.Denot → List ℕ → Type 0) (Ens : S.Denot → SProp 𝓤) (Pre : SProp 𝓤) (Mid Post : Val → SProp 𝓤)
        (goes : Is R h (FR.val h ∷ []) → ent 𝓤 (sep 𝓤 (sep 𝓤 (A.lft κ' q') (sem 𝓛 ftrue)) (sem 𝓛 ((MutSlice (named 0) κ' u64).own_val y (s ∷ [])))) Pre)
        (met : ent 𝓤 Pre (C f (FR.val h ∷ s ∷ vint w64 n ∷ FI.val i ∷ []) Mid))
        (back : (v : Val) → ent 𝓤 (Mid v) (mean 𝓛 (Back Ens v)))
        (says_so : (r : S.Denot) → ent 𝓤 (Ens r) (mean 𝓛 (Last Says r)))
        (exits : (r : S.Denot) (zs : List ℕ) → Says r zs → Is B (two r) (FB.val (two r) ∷ []) → ent 𝓤 (⋆ 𝓛 (Left r zs)) (Post (FB.val (two r)))) where
      pub walk : Room u64 (length ys) → n < 2 ^ 64 → Is I i (FI.val i ∷ [])
          → ent 𝓤 (⋆ 𝓛 ((‵ (flft κ q) ⊛ ‵ (flft κ' q') ⊛ ‵ ftrue) ∷ ‵ (owns (MutRef (named 0) κ R ∷ MutSlice (named 1) κ' u64 ∷ u64 ∷ I ∷ []) x at) ∷ []))
          (WpFn 𝓤 H C Λ the_entry (vptr b o ∷ s ∷ vint w64 n ∷ FI.val i ∷ []) Post)
      walk room fits i_is =
          qed 𝓛 ((‵ (flft κ q) ⊛ ‵ (flft κ' q') ⊛ ‵ ftrue) ∷ ‵ (owns (MutRef (named 0) κ R ∷ MutSlice (named 1) κ' u64 ∷ u64 ∷ I ∷ []) x at) ∷ []) ∵
          split ! $ move ! (2 ∷ []) $ fsplit ! $ fsplit3 ! $ drop ! $ move ! (2 ∷ []) $ fsplit ! $ move ! (2 ∷ 3 ∷ 4 ∷ 0 ∷ 5 ∷ []) $
          -- [obs; the borrow; the token; what the slice owns; the slice's token; what is left of the parameters]
          enter ! C Λ the_entry (vptr b o ∷ s ∷ vint w64 n ∷ FI.val i ∷ []) _ $
          alloc1 ! (λ l₀. alloc1 ! (λ l₁. alloc1 ! (λ l₂. alloc1 ! (λ l₃. alloc1 ! (λ l₄. alloc1 ! (λ l₅. alloc1 ! (λ l₆. alloc1 ! (λ l₇. alloc1 ! (λ l₈. alloc1 ! (λ l₉. alloc0 ! $ params1 ! $
          pass1 ! (init ! 16 refl (tt, tt)) $ pass1 ! (init ! 14 refl (tt, (tt, (record { fits = room.0 }, tt)))) $ pass1 ! (init ! 12 refl (tt, record { fits = fits })) $ pass1 !
          (init ! 10 refl (FI.typed 𝓛 i i_is)) $ pass0 ! $
          move ! (20 ∷ 21 ∷ 22 ∷ []) $ opens ! tt R {h = h} b o (λ vs. spelt ! R (Is R) (shows 𝓛 R) (λ x. FR.val x ∷ []) FR.tells full_share h vs b o $
          move ! (1 ∷ []) $ peeks ! R (Is R) (shows 𝓛 R) h (FR.val h ∷ []) (λ was. drop ! $ rewrite ! 0 (λ (ts : List Ty). ‵ (cell_at full_share ts (FR.val h ∷ []) b o)) FR.lies refl $
          -- [the machine's cell; the open borrow; obs; auth; _9 4; _8 6; _7 8; _6 10; _5 12; _4 14; _3 16; _2 18; _1 20; _0 22; the slice's 24; its token 25]
          assigns ! (of_opd ! (load ! (from ! (hop ! (look ! 20 refl) (stop !))) (look_raw ! 0 refl))) (from ! (stop !)) (init ! 8 refl (FR.typed 𝓛 h was)) $
          assigns ! (addr ! (from ! (fld ! refl (hop ! (look_in ! 18 (sub ! 0 refl (whole !))) (stop !))))) (from ! (stop !)) (init ! 6 refl (tt, tt)) $
          assigns ! (agg ! (and_then ! (load ! (from ! (stop !)) (look ! 6 refl)) (and_then ! (load ! (from ! (fld ! refl (stop !))) (look_in ! 18 (sub ! 1 refl (whole !)))) (no_more !))))
          (from ! (stop !)) (init ! 4 refl (tt, (tt, (record { fits = room.0 }, tt)))) $
          move ! (25 ∷ 24 ∷ []) $ use2 𝓛 (raw Pre) (goes was) $
          calls_from ! fm (raw Pre) (FR.val h ∷ s ∷ vint w64 n ∷ FI.val i ∷ []) Mid met
          (and_then ! (load ! (from ! (stop !)) (look ! 9 refl))
          (and_then ! (load ! (from ! (stop !)) (look ! 5 refl))
          (and_then ! (load ! (from ! (stop !)) (look ! 17 refl)) (and_then ! (load ! (from ! (stop !)) (look ! 15 refl)) (no_more !))))) (λ v.
          use1 𝓛 (Back Ens v) (back v) $ await ! tt $ pick ! (λ r. split ! $ move ! (1 ∷ []) $ use1 𝓛 (Last Says r) (says_so r) $ pick ! (λ zs. split ! $ move ! (1 ∷ []) $ heard ! (Says r zs) (λ e.
          move ! (1 ∷ []) $ split ! $ move ! (1 ∷ []) $ peeks ! S (Is S) (shows 𝓛 S) r (v ∷ []) (λ is. drop ! $
          -- [the slice's token; the last list; the machine's cell 2; the open borrow 3; obs 4; auth 5; _9 6; _8 8; _7 10; _6 12; _5 14; _4 16; _3 18; _2 20; _1 22; _0 24; what is left of the parameters 26]
          land ! (from ! (stop !)) (init ! 14 refl (subst (λ (u : Val). T (has_ty σ u) × WT u) (sym (ap only (P.tells r (v ∷ []) is))) (parts r (v ∷ []) is))) $ rewrite ! 14
          (λ (u : Val). ‵ (fat full_share σ l₅ 0 u)) (ap only (P.tells r (v ∷ []) is)) refl $
          assigns ! (of_opd ! (load ! (from ! (fld ! refl (stop !))) (look_in ! 14 (sub ! 0 refl (whole !))))) (from ! (stop !))
          (init ! 12 refl (FR.typed 𝓛 (one r) (P.one_is r (v ∷ []) is))) $
          assigns ! (of_opd ! (load ! (from ! (stop !)) (look ! 12 refl))) (from ! (hop ! (look ! 22 refl) (stop !))) (store_raw ! 2 refl (FR.typed 𝓛 (one r) (P.one_is r (v ∷ []) is))) $
          assigns ! (of_opd ! (load ! (from ! (fld ! refl (stop !))) (look_in ! 14 (sub ! 1 refl (whole !))))) (from ! (stop !))
          (init ! 24 refl (FB.typed 𝓛 (two r) (P.two_is r (v ∷ []) is))) $
          rewrite ! 2 (λ (ts : List Ty). ‵ (cell_at full_share ts (FR.val (one r) ∷ []) b o)) (sym FR.lies) refl $
          owned ! R (Is R) (FR.makes 𝓛) (one r) (FR.val (one r) ∷ []) (P.one_is r (v ∷ []) is) $ move ! (3 ∷ 0 ∷ 4 ∷ 5 ∷ 6 ∷ []) $ closes ! tt R (one r) (FR.val (one r) ∷ []) b o $
          -- [obs; the borrow; the token; the slice's token; the last list; _9 5; _8 7; _7 9; _6 11; _5 13; _4 15; _3 17; _2 19; _1 21; _0 23]
          returns ! (look ! 23 refl) $ forget ! 5 refl $ forget ! 7 refl $ forget ! 9 refl $ forget ! 11 refl $ forget ! 13 refl $ forget ! 15 refl $ forget ! 17 refl $ forget ! 19 refl $ forget ! 21 refl $ forget ! 23 refl $
          move ! (23 ∷ 24 ∷ []) $ free1 ! $ move ! (21 ∷ 22 ∷ []) $ free1 ! $ move ! (19 ∷ 20 ∷ []) $ free1 ! $ move ! (17 ∷ 18 ∷ []) $ free1 ! $ move ! (15 ∷ 16 ∷ []) $ free1 ! $ move !
          (13 ∷ 14 ∷ []) $ free1 ! $ move ! (11 ∷ 12 ∷ []) $ free1 ! $ move ! (9 ∷ 10 ∷ []) $ free1 ! $ move ! (7 ∷ 8 ∷ []) $ free1 ! $ move ! (5 ∷ 6 ∷ []) $ free1 ! $ free0 ! $
          keep ! (0 ∷ 1 ∷ 2 ∷ 3 ∷ 4 ∷ []) $ by ! (exits r zs e (P.two_is r (v ∷ []) is)))))))))))))))))))
