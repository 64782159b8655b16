-- The units of a whole program, from what is left after its parts.
use Rattle.std.proofs.Common.{◌≡◌, ℕ, ◌+◌, ◌-◌, min, List, sym, ◌∙◌, ap, arith}
use Rattle.std.specs.Prelude.{sum_by}
use Rattle.ba_numbers.specs.declared.ids.VarId.{VarId}
use Rattle.ba_tree.specs.Meaning.{variable_of}
use Rattle.ba_tree.specs.Run.{main_of}
use Rattle.ba_tree.specs.Units.{bodies_at, declaration_units, declared_lengths, units_of, units_of_body}
use Rattle.ba_tree.specs.declared.run.Bounds.{Bounds}
use Rattle.ba_tree.specs.declared.tree.Program.{Program}
use Rattle.ba_tree.specs.declared.tree.Stmt.{Stmt}
use Rattle.ba_units.specs.Counts.{bodies_of, stmt_units, stmts_units}
use Rattle.ba_units.specs.Lengths.{lengths_of}
use Rattle.ba_units.specs.declared.frame.Frame.{Frame}
use Rattle.ba_units.specs.declared.setting.Setting.{Setting}

abbrev global_units : Program → List VarId → ℕ
global_units p vs = sum_by (λ v. declaration_units (variable_of p v).shape) vs

module _ (w : Setting) (n : ℕ) (frame : Frame)
    (framed : lengths_of w.program.now frame ≡ declared_lengths w.program.now) where
  body-is : (xs body : List Stmt) → xs ≡ body → stmts_units w n frame xs
      ≡ units_of_body w.program.now w.turns (bodies_at w.program.now w.turns n) body
      (declared_lengths w.program.now)
  unfolding stmt_units bodies_of
  body-is xs body at_xs = ap (stmts_units w n frame) at_xs
      ∙ ap (λ lengths. units_of_body w.program.now w.turns (bodies_at w.program.now w.turns n) body lengths)
      framed

  pub units-is : (b : Bounds) (globals : List VarId) (inits body : List Stmt) (one two three result : ℕ)
      → w.turns ≡ b.turns → n ≡ b.frames - 1 → globals ≡ w.program.now.globals → inits ≡ w.program.now.inits
      → body ≡ (main_of w.program.now).body
      → one ≡ 20001 - global_units w.program.now globals → two ≡ one - stmts_units w n frame inits
      → three ≡ two - stmts_units w n frame body → result ≡ 20001 - three
      → result ≡ min (units_of w.program.now b) 20001
  units-is b globals inits body one two three result is_turns is_frames at_globals at_inits at_body first
      second third last =
      let p = w.program.now in
      let named : units_of p b ≡ global_units p globals
      + units_of_body p w.turns (bodies_at p w.turns n) p.inits (declared_lengths p)
      + units_of_body p w.turns (bodies_at p w.turns n) (main_of p).body (declared_lengths p) =
      λ i. global_units p (sym at_globals i)
      + units_of_body p (sym is_turns i) (bodies_at p (sym is_turns i) (sym is_frames i)) p.inits
      (declared_lengths p)
      + units_of_body p (sym is_turns i) (bodies_at p (sym is_turns i) (sym is_frames i)) (main_of p).body
      (declared_lengths p) in
      let parts : global_units p globals + stmts_units w n frame inits + stmts_units w n frame body
      ≡ global_units p globals
      + units_of_body p w.turns (bodies_at p w.turns n) p.inits (declared_lengths p)
      + units_of_body p w.turns (bodies_at p w.turns n) (main_of p).body (declared_lengths p) =
      λ i. global_units p globals + body-is inits p.inits at_inits i + body-is body (main_of p).body at_body
      i in
      counted (units_of w.program.now b) (global_units w.program.now globals) (stmts_units w n frame inits)
      (stmts_units w n frame body) one two three result (named ∙ sym parts) first second third last
    where
      counted : (whole a b c one two three result : ℕ) → whole ≡ a + b + c → one ≡ 20001 - a → two ≡ one - b
          → three ≡ two - c → result ≡ 20001 - three → result ≡ min whole 20001
      counted whole a b c one two three result is first second third last = omega arith
