mod TestTokens
