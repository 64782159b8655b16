-- Statements that are run if a flag is set, in groups.
use Rattle.std.proofs.Common.{◌≡◌, ℕ, zero, suc, ◌+◌, ℤ, pos, Bool, true, false, cond, List, [], ◌∷◌, ◌++◌, map, length, refl, sym, ◌∙◌, ap, subst, append-nil, append_assoc}
use Rattle.std.specs.Prelude.{slice_index_or}
use Rattle.std.specs.Ordering.{int_eq}
use Rattle.std.proofs.lemmas.List.{length-map, length-append, map-append, map_push}
use Rattle.ba_code.proofs.Rows.{in_order-one, run-append, run-none}
use Rattle.ba_code.specs.Meaning.{Setting, path_in, run_nodes}
use Rattle.ba_code.specs.State.{CodeState, operand_value}
use Rattle.ba_code.specs.Types.{Types}
use Rattle.ba_code.specs.declared.nodes.Node.{Node}
use Rattle.ba_code.specs.declared.nodes.Operand.{Operand}
use Rattle.ba_code.specs.declared.nodes.Operand.TheVariants.{Const}
use Rattle.ba_inline.proofs.Ends.{meets-fork, meets-is, meets-then}
use Rattle.ba_inline.proofs.Entering.{guarded-append, guarded-same}
use Rattle.ba_inline.proofs.Forms.{exec_all-more}
use Rattle.ba_inline.proofs.Homes.{after-does, makes-row}
use Rattle.ba_inline.proofs.Joining.{joined, makes-as, settled-stays}
use Rattle.ba_inline.proofs.Keeping.{grows-then, keeps-same, ready-after, ready-before}
use Rattle.ba_inline.proofs.Statements.{makes-no-code}
use Rattle.ba_inline.specs.Adding.{if_act}
use Rattle.ba_inline.specs.Declarations.{Grows}
use Rattle.ba_inline.specs.Ends.{Meets}
use Rattle.ba_inline.specs.Keeping.{Keeps}
use Rattle.ba_inline.specs.Making.{Adds, AreSettled, Does, IsSettled, Makes}
use Rattle.ba_inline.specs.Names.{IsNaming, Names, seen, with_home}
use Rattle.ba_inline.specs.Parts.{context_in_frame, stmt_part, stmts_part}
use Rattle.ba_inline.specs.Switching.{GoesOn, begins, guarded_part, guarded_row, same}
use Rattle.ba_inline.specs.Worlds.{IsReady, World, code_setting}
use Rattle.ba_inline.specs.declared.frames.Frame.{Frame}
use Rattle.ba_tree.specs.Acts.{after_part, fork, give, then_do}
use Rattle.ba_tree.specs.Meaning.{exec, exec_all}
use Rattle.ba_tree.specs.State.{Execution, State}
use Rattle.ba_tree.specs.declared.run.Flow.TheVariants.{Next}
use Rattle.ba_tree.specs.declared.run.Step.{Step}
use Rattle.ba_tree.specs.declared.tree.Program.{Program}
use Rattle.ba_tree.specs.declared.tree.Stmt.{Stmt}

-- nodes that aren't put after others, since they would do nothing
fork-same : {A : Type 0} (z : ℤ) (e : A) → cond (int_eq z (pos 0)) e e ≡ e
fork-same z e = by (int_eq z (pos 0))
  where
    by : (b : Bool) → cond b e e ≡ e
    by true = refl
    by false = refl

pub adds-never : (old new nodes : List Node) (when : Operand) → new ≡ old → when ≡ Const (pos 0)
    → Adds old new (if_act when nodes [])
adds-never old new nodes when same_nodes is = record {
  nodes = [];
  is = same_nodes ∙ sym (append-nil old);
  runs = λ g turns t. sym (ap (λ o. if_act o nodes [] g turns t) is);
}

pub adds-nothing : (old new nodes : List Node) (when : Operand) → new ≡ old → nodes ≡ []
    → Adds old new (if_act when nodes [])
adds-nothing old new nodes when same_nodes none = record {
  nodes = [];
  is = same_nodes ∙ sym (append-nil old);
  runs = λ g turns t. sym (ap (λ ns. if_act when ns [] g turns t) none
      ∙ fork-same (operand_value t when) (run_nodes g [] turns t));
}

-- FLAGS

-- the same operand as often as there are statements
abbrev pub all_by : Operand → List Stmt → List Operand
all_by when body = map (λ (stmt : Stmt). when) body

values-by : (t : CodeState) (when : Operand) (body : List Stmt)
    → map (operand_value t) (all_by when body) ≡ map (λ (stmt : Stmt). operand_value t when) body
values-by t when [] = refl
values-by t when (stmt ∷ body) = ap (λ zs. operand_value t when ∷ zs) (values-by t when body)

pub settled-at : (keep : Bool) (names : Names) (d : Types) (os : List Operand) (i : ℕ) → AreSettled keep
    names d os
    → IsSettled keep names d (slice_index_or os i (Const (pos 0)))
settled-at keep names d [] i settled = tt
settled-at keep names d (o ∷ os) zero settled = settled.0
settled-at keep names d (o ∷ os) (suc i) settled = settled-at keep names d os i settled.1

pub flag-settled : (names : Names) (d : Types) (os : List Operand) (i : ℕ) (flag : Operand) → AreSettled
    true names d os
    → flag ≡ slice_index_or os i (Const (pos 0)) → IsSettled true names d flag
flag-settled names d os i flag settled is =
    subst (IsSettled true names d) (sym is) (settled-at true names d os i settled)

-- SO FAR: the first statements of a body are after others, those after them in a group

pub record IsGrouped (p : Program) (names : Names) (path : List Step) (frame : Frame) (low now : Types)
    (old out nodes : List Node) (when : Operand) (body : List Stmt) (flags : List Operand) : Type 0 where
  pub front : List Stmt
  pub front_flags : List Operand
  pub part : List Stmt
  pub mid : Types
  pub body_is : body ≡ front ++ part
  pub flags_are : flags ≡ front_flags ++ all_by when part
  pub long : length front_flags ≡ length front
  pub settled : IsSettled true (with_home frame.home names) low when
  pub done : Makes p names path (guarded_part p frame front front_flags) (Does names frame.exits frame.home
      low)
      low mid old out
  pub group : Makes p names path (stmts_part p frame part) (Does names frame.exits frame.home mid) mid now
      [] nodes

pub grouped-grows : {p : Program} {names : Names} {path : List Step} {frame : Frame} {low now : Types}
    {old out nodes : List Node} {when : Operand} {body : List Stmt} {flags : List Operand}
    → IsGrouped p names path frame low now old out nodes when body flags → Grows low now
grouped-grows {low = low} {now = now} so_far = grows-then low so_far.mid now so_far.done.grows
    so_far.group.grows

module _ (p : Program) (names : Names) (path : List Step) (frame : Frame) (low : Types)
    (naming : IsNaming (with_home frame.home names) low) where
  abbrev Grouped : Types → List Node → List Node → List Node → Operand → List Stmt → List Operand → Type 0
  Grouped = IsGrouped p names path frame low

  no-statements : (d : Types) (t u : CodeState) → Does names frame.exits frame.home d u Next (seen names u)
      Next u
  no-statements d t u = record {
    flows = refl;
    sees = refl;
    keeps = keeps-same true (with_home frame.home names) d u;
  }

  -- the group is put after the others
  module _ (now : Types) (old out new nodes : List Node) (when : Operand) (body : List Stmt) (flags : List
      Operand)
      (so_far : Grouped now old out nodes when body flags) (added : Adds out new (if_act when nodes [])) where
    abbrev group_now : World → List Step → CodeState → Execution
    group_now w back t = fork (exec_all (context_in_frame p frame w) back so_far.part) (give Next)
        (operand_value t when)

    parts-are : (w : World) (back : List Step) (t : CodeState) (s : State)
        → guarded_part p frame body flags w back t s
        ≡ then_do (guarded_part p frame so_far.front so_far.front_flags w back t s) (after_part (group_now
        w back t))
    parts-are w back t s =
        (λ i. guarded_row (context_in_frame p frame w) back (so_far.body_is i) (map (operand_value t)
        (so_far.flags_are i)) s)
        ∙ ap (λ zs. guarded_row (context_in_frame p frame w) back (so_far.front ++ so_far.part) zs s)
        (map-append (operand_value t) so_far.front_flags (all_by when so_far.part)
        ∙ ap (λ zs. map (operand_value t) so_far.front_flags ++ zs) (values-by t when so_far.part))
        ∙ guarded-append (context_in_frame p frame w) back so_far.front so_far.part
        (map (operand_value t) so_far.front_flags) (map (λ (stmt : Stmt). operand_value t when) so_far.part) s
        (length-map so_far.front_flags (operand_value t) ∙ so_far.long)
        ∙ ap (λ (f : Execution). then_do (guarded_part p frame so_far.front so_far.front_flags w back t s)
        (after_part f))
        (λ i s. guarded-same (context_in_frame p frame w) back (operand_value t when) so_far.part s i)

    group-meets : (w : World) (turns : List ℕ) (t u : CodeState) → IsReady w now u
        → Keeps true (with_home frame.home names) low t u
        → Meets (Does names frame.exits frame.home so_far.mid u) (group_now w (path_in turns path) t (seen
        names u))
        (run_nodes (code_setting p w) added.nodes turns u)
    group-meets w turns t u ready k =
        let g : Setting = code_setting p w in
        let back : List Step = path_in turns path in
        let same_flag : operand_value u when ≡ operand_value t when =
        settled-stays true true (with_home frame.home names) low when t u (λ n h. h) so_far.settled k in
        subst (Meets (Does names frame.exits frame.home so_far.mid u) (group_now w back t (seen names u)))
        (sym (added.runs g turns u
        ∙ ap (λ z. fork (run_nodes g nodes turns) (run_nodes g [] turns) z u) same_flag))
        (meets-fork (Does names frame.exits frame.home so_far.mid u)
        (exec_all (context_in_frame p frame w) back so_far.part) (give Next)
        (run_nodes g nodes turns) (run_nodes g [] turns) (operand_value t when) (seen names u) u
        (subst (λ ns. Meets (Does names frame.exits frame.home so_far.mid u)
        (exec_all (context_in_frame p frame w) back so_far.part (seen names u)) (run_nodes g ns turns u))
        (sym so_far.group.is) (so_far.group.runs w turns u ready))
        (subst (Meets (Does names frame.exits frame.home so_far.mid u) (give Next (seen names u)))
        (sym (run-none g turns u)) (no-statements so_far.mid t u)))

    pub makes-group : Makes p names path (guarded_part p frame body flags) (Does names frame.exits
        frame.home low)
        low now old new
    makes-group = record {
      nodes = so_far.done.nodes ++ added.nodes;
      is = joined old out new so_far.done.nodes added.nodes so_far.done.is added.is;
      grows = grows-then low so_far.mid now so_far.done.grows so_far.group.grows;
      runs = λ w turns t ready.
          let back : List Step = path_in turns path in
          let g : Setting = code_setting p w in
          meets-is (Does names frame.exits frame.home low t) (guarded_part p frame body flags w back t
          (seen names t))
          (then_do (guarded_part p frame so_far.front so_far.front_flags w back t (seen names t))
          (after_part (group_now w back t)))
          (run_nodes g (so_far.done.nodes ++ added.nodes) turns t)
          (then_do (run_nodes g so_far.done.nodes turns t) (after_part (run_nodes g added.nodes turns)))
          (parts-are w back t (seen names t)) (run-append g turns t so_far.done.nodes added.nodes)
          (meets-then (Does names frame.exits frame.home low t) (Does names frame.exits frame.home low t)
          (guarded_part p frame so_far.front so_far.front_flags w back t (seen names t))
          (run_nodes g so_far.done.nodes turns t) (after_part (group_now w back t))
          (after_part (run_nodes g added.nodes turns))
          (so_far.done.runs w turns t (ready-before w so_far.mid now t so_far.group.grows ready))
          (after-does names frame.exits frame.home low so_far.mid so_far.done.grows t (group_now w back t)
          (run_nodes g added.nodes turns)
          (λ u k. group-meets w turns t u (ready-after w now true (with_home frame.home names) low t u k
          ready) k)));
    }

  -- NOTHING YET

  pub grouped-none : (old nodes : List Node) → nodes ≡ [] → Grouped low old old nodes (Const (pos 0)) [] []
  unfolding exec_all
  grouped-none old nodes none = record {
    front = [];
    front_flags = [];
    part = [];
    mid = low;
    body_is = refl;
    flags_are = refl;
    long = refl;
    settled = tt;
    done = makes-no-code p names path frame low naming (guarded_part p frame [] []) old (λ w back t s. refl);
    group = subst (λ nodes. Makes p names path (stmts_part p frame []) (Does names frame.exits frame.home
        low) low low [] nodes)
        (sym none) (makes-no-code p names path frame low naming (stmts_part p frame []) [] (λ w back t s.
        refl));
  }

  -- ONE MORE STATEMENT, in the group to which it belongs

  -- it is the next one of a group
  group-more : (mid now high : Types) (part : List Stmt) (stmt : Stmt) (nodes more : List Node)
      → Makes p names path (stmts_part p frame part) (Does names frame.exits frame.home mid) mid now [] nodes
      → Makes p names path (stmt_part p frame stmt) (Does names frame.exits frame.home now) now high nodes
      more
      → Makes p names path (stmts_part p frame (part ++ stmt ∷ [])) (Does names frame.exits frame.home mid)
      mid high [] more
  group-more mid now high part stmt nodes more made one =
      makes-as p names path (stmts_part p frame (part ++ stmt ∷ []))
      (λ w back t s. then_do (exec_all (context_in_frame p frame w) back part s)
      (after_part (exec (context_in_frame p frame w) stmt back)))
      (Does names frame.exits frame.home mid) mid high [] more
      (λ w back t s. exec_all-more (context_in_frame p frame w) back part stmt s)
      (makes-row p names path frame.exits frame.home
      (λ w back. exec_all (context_in_frame p frame w) back part) (λ w back. exec (context_in_frame p frame
      w) stmt back)
      mid now high [] nodes more made one)

  one-left : (stmt : Stmt) (w : World) (back : List Step) (s : State)
      → exec_all (context_in_frame p frame w) back (stmt ∷ []) s ≡ exec (context_in_frame p frame w) stmt
      back s
  unfolding exec_all
  one-left stmt w back s = in_order-one (exec (context_in_frame p frame w) stmt back) s

  pub grouped-more : (now high : Types) (old out new nodes next more : List Node) (when flag next_when :
      Operand)
      (body : List Stmt) (flags : List Operand) (stmt : Stmt) → Grouped now old out nodes when body flags
      → IsSettled true (with_home frame.home names) low flag
      → GoesOn flag when next_when nodes next out new
      → Makes p names path (stmt_part p frame stmt) (Does names frame.exits frame.home now) now high next more
      → Grouped high old new more next_when (body ++ stmt ∷ []) (flags ++ flag ∷ [])
  grouped-more now high old out new nodes next more when flag next_when body flags stmt so_far settled
      (same is_flag is_when is_next is_new) one = record {
        front = so_far.front;
        front_flags = so_far.front_flags;
        part = so_far.part ++ stmt ∷ [];
        mid = so_far.mid;
        body_is = ap (λ body. body ++ stmt ∷ []) so_far.body_is ∙ append_assoc so_far.front so_far.part
            (stmt ∷ []);
        flags_are = (λ i. so_far.flags_are i ++ is_flag i ∷ [])
            ∙ append_assoc so_far.front_flags (all_by when so_far.part) (when ∷ [])
            ∙ ap (λ os. so_far.front_flags ++ os) (sym (map_push (λ (stmt : Stmt). when) so_far.part stmt))
            ∙ ap (λ when. so_far.front_flags ++ all_by when (so_far.part ++ stmt ∷ [])) (sym is_when);
        long = so_far.long;
        settled = subst (IsSettled true (with_home frame.home names) low) (sym is_when) so_far.settled;
        done = subst (λ new. Makes p names path (guarded_part p frame so_far.front so_far.front_flags)
            (Does names frame.exits frame.home low) low so_far.mid old new) (sym is_new) so_far.done;
        group = group-more so_far.mid now high so_far.part stmt nodes more so_far.group
            (subst (λ nodes. Makes p names path (stmt_part p frame stmt) (Does names frame.exits frame.home
            now)
            now high nodes more) is_next one);
      }
  grouped-more now high old out new nodes next more when flag next_when body flags stmt so_far settled
      (begins is_when none added) one = record {
        front = body;
        front_flags = flags;
        part = stmt ∷ [];
        mid = now;
        body_is = refl;
        flags_are = ap (λ o. flags ++ o ∷ []) (sym is_when);
        long = ap length so_far.flags_are ∙ length-append so_far.front_flags (all_by when so_far.part)
            ∙ (λ i. so_far.long i + length-map so_far.part (λ (stmt : Stmt). when) i)
            ∙ sym (length-append so_far.front so_far.part) ∙ ap length (sym so_far.body_is);
        settled = subst (IsSettled true (with_home frame.home names) low) (sym is_when) settled;
        done = makes-group now old out new nodes when body flags so_far added;
        group = makes-as p names path (stmts_part p frame (stmt ∷ [])) (stmt_part p frame stmt)
            (Does names frame.exits frame.home now) now high [] more
            (λ w back t s. one-left stmt w back s)
            (subst (λ nodes. Makes p names path (stmt_part p frame stmt) (Does names frame.exits frame.home
            now)
            now high nodes more) none one);
      }
