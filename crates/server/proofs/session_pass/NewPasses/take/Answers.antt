use Rattle.std.proofs.Common.{◌≡◌, ◌+◌, ℕ, [], length, vec_len, refl, sym, ap, subst, ◌∙◌, arith}
use Rattle.std.proofs.lemmas.List.{length_push}
use Rattle.marks.specs.Known.{PassState}
use Rattle.server.specs.Sessions.{HasSessions}
use Rattle.server.proofs.Sessions.{last_new, none_yet}
use Rattle.server.proofs.session_pass.NewPasses.take.Goals as goal

-- the pass of the client with the greatest number, which has sent nothing
pub invariant_of-result : goal.invariant_of-result
invariant_of-result g c =
    let old = c.args.self.now in let front = c.pop.new.self.items in let pass = c.in-Some.pass in
    let items = c.in-Some.ensures.items in
    let size : length front + 1 ≡ length old.passes.items = sym (ap (λ l. length l) items ∙ length_push front pass) in
    let is = last_new g.B.BoardName.opening (length old.passes.items) front pass (sym items ∙ old.new) size in
    let counted : length front ≡ c.len.result = sym (c.len.ensures ∙ c.pop.new.self.ok.0) in
    let by : pass.client.by ≡ c.len.result = ap (λ (p : PassState). p.client.by) is.1 ∙ counted in record {
      in_range = omega (arith, old.few, size, counted, old.passes.ok.0);
      by = by;
      served = subst (λ (p : PassState). HasSessions g.B.ServerName.offer g.B.ExportName.geometry g.B.ServerName.several p.client.by p.client.mine) (sym is.1) (none_yet g.B.ServerName.offer g.B.ExportName.geometry g.B.ServerName.several _);
    }
